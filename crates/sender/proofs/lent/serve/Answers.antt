use Rattle.std.proofs.Common.{◌≡◌, refl, sym, ◌∙◌, ap, ap₂, List, ℕ, ◌+◌, ◌-◌, ◌*◌, ◌≤◌, length, take, drop, Some, arith}
use Rattle.lists.proofs.Found.{found_some, found_none}
use Rattle.block_encoder.specs.Encoding.{encoded_into}
use Rattle.block_encoder.proofs.EncodeCases.{tones_kept, tones_written}
use Rattle.block_encoder.proofs.CheckCases.{encoded_right, right_text}
use Rattle.sender.specs.Queues.{Block}
use Rattle.sender.specs.State.{place_in, filled}
use Rattle.sender.specs.Internal.{place_with}
use Rattle.sender.specs.declared.Served.{Served}
use Rattle.sender.proofs.Filled.{part_codes}
use Rattle.sender.proofs.Serving.{place_there, oldest_there}
use Rattle.sender.proofs.lent.serve.Goals as goal
use Rattle.sender.proofs.lent.serve.Goals.{After-encode_block}

pub returns-in_err-at : goal.returns-in_err-at
returns-in_err-at c =
    let a = c.args in
    let past = found_none _ _ (sym c.in_err-at.ensures.place) in
    rw c.from_residual.ensures
    (record {
      serves = λ q h some few ok. absurd (omega (arith, place_there q a.state.now a.depot h c.requires.0 some few, rw c.from-count.ensures at past));
      kept = λ e. record { output = refl; state_kept = refl };
      written = λ s e. absurd cc;
    })

-- the mode and the codes as the encoder gets them, which are the place's
abbrev its_codes : (c : After-encode_block) → List ℕ
its_codes c = let from = 10 * c.in_ok-at.at + 2 in take (from + c.code_count.result - from) (drop from c.args.state.now)

codes_placed : (c : After-encode_block) → its_codes c ≡ (place_in c.args.state.now c.in_ok-at.at).block.codes
codes_placed c =
    let at = c.in_ok-at.at in
    let fits : 10 * at + 10 ≤ length c.args.state.now = omega (arith, c.in_ok-at.ensures.below) in
    part_codes c.args.state.now at c.code_count.result fits (rw c.from-mode.ensures at c.code_count.ensures)

-- the place is the first with a block of the depot
first_place : (c : After-encode_block) → c.in_ok-at.at ≡ place_with c.args.depot c.args.state.now (filled c.args.state.now)
first_place c = rw c.from-count.ensures at (found_some _ _ _ (sym c.in_ok-at.ensures.place)).0

-- what is encoded is the depot's oldest block
oldest_encoded : (c : After-encode_block) → let a = c.args in (b : Block) → b ≡ (place_in a.state.now c.in_ok-at.at).block
    → (c.from-mode.result ≡ b.mode) × (its_codes c ≡ b.codes)
unfolding place_in
oldest_encoded c b o = (c.from-mode.ensures ∙ ap (λ (x : Block). x.mode) (sym o), codes_placed c ∙ ap (λ (x : Block). x.codes) (sym o))

pub returns-in_default : goal.returns-in_default
returns-in_default c =
    let at = (goal.at.returns-in_default c).After-encode_block in
    let a = c.args in
    let refused = sym c.encode_block.ensures.answer ∙ c.in_default.is in
    record {
      serves = λ q h some few ok.
          let same = oldest_encoded at _ (oldest_there q a.state.now a.depot h c.requires.0 some few c.in_ok-at.at (first_place at)) in
          let encoded = rw (sym same.0, sym same.1) at ok in
          absurd (cc (encoded, refused));
      kept = λ e. record { output = c.encode_block.ensures.output ∙ tones_kept _ _ _ refused; state_kept = refl };
      written = λ s e. absurd cc;
    }

mode_served : {s t : Served} → Some s ≡ Some t → s.mode ≡ t.mode
mode_served {s} {t} e =
    let same : s ≡ t = cc in
    ap (λ (x : Served). x.mode) same

pub returns : goal.returns
returns c =
    let at = (goal.at.returns c).After-encode_block in
    let a = c.args in
    let accepted = sym c.encode_block.ensures.answer ∙ c.in-Ok.is in
    record {
      serves = λ q h some few ok.
          let same = oldest_encoded at _ (oldest_there q a.state.now a.depot h c.requires.0 some few c.in_ok-at.at (first_place at)) in
          record {
            answered = ap (λ (m : ℕ). Some (record { depot = a.depot; mode = m })) same.0;
            output = c.encode_block.ensures.output ∙ ap₂ (λ (m : ℕ) (codes : List ℕ). encoded_into m codes a.tones.now) same.0 same.1;
            left = c.take_out.ensures.left q h some few (first_place at);
          };
      kept = λ e. absurd cc;
      written = λ s e.
          let m = mode_served e in
          rw (← m)
          (record {
            codes = its_codes at;
            text = right_text _ _ (encoded_right _ _ _ _ accepted);
            output = c.encode_block.ensures.output ∙ tones_written _ _ _ accepted;
          });
    }
