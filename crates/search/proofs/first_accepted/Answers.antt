use Rattle.std.proofs.Common.{rules, ◌∙◌, sym, ap}
use Rattle.lists.specs.Found.{found}
use Rattle.search.specs.Starts.{starts}
use Rattle.search.proofs.Clears.{too_short, too_long, searched, no_mode, no_lead}
use Rattle.search.proofs.first_accepted.Goals as goal
use Rattle.search.proofs.first_accepted.Goals.{then-run-lt64-via-then-run-lt64, then-run-lt64-via-else-run-lt64+then-run-gt-LONGEST_RUN, then-not-is_mode-via-then-not-is_mode, then-not-is_mode-via-else-not-is_mode+then-not-is_lead}

pub returns-then-run-lt64 : goal.returns-then-run-lt64
returns-then-run-lt64 c =
    elim c.then-run-lt64.branch [
      | then-run-lt64-via-then-run-lt64 w ↦ too_short _ _ _ w.if-run-lt64.true
      | then-run-lt64-via-else-run-lt64+then-run-gt-LONGEST_RUN w ↦ too_long _ _ _ w.if-run-gt-LONGEST_RUN.true
    ]

pub returns-then-not-is_mode : goal.returns-then-not-is_mode
returns-then-not-is_mode c =
    let few = c.if-run-gt-LONGEST_RUN.false in
    elim c.then-not-is_mode.branch [
      | then-not-is_mode-via-then-not-is_mode w ↦ no_mode _ _ _ few (sym c.is_mode.ensures ∙ w.if-not-is_mode.true)
      | then-not-is_mode-via-else-not-is_mode+then-not-is_lead w ↦ no_lead _ _ _ few (sym c.is_mode.ensures ∙ w.if-not-is_mode.false) (sym w.is_lead.ensures ∙ w.if-not-is_lead.true)
    ]

pub first_clear-requires : goal.first_clear-requires
first_clear-requires c =
    record { settings = record { mode = sym c.is_mode.ensures ∙ c.if-not-is_mode.false; lead = sym c.is_lead.ensures ∙ c.if-not-is_lead.false }; count = search rules }

pub returns : goal.returns
returns c = c.first_clear.ensures ∙ ap (found (starts c.args.run.now)) (searched _ _ _ c.if-run-gt-LONGEST_RUN.false)
