-- What is written is the sentence of the number's pattern.
use Rattle.std.proofs.Common.{◌≡◌, sym, ◌∙◌, ap, List, [], ℕ, length, arith, Err}
use Rattle.sentence.specs.Sentences.{Row, sentences, pattern_in}
use Rattle.sentence.specs.Condition.{are_sound}
use Rattle.sentence.specs.Writing.{write_pattern, pattern_into, write_sentence, sentence_into}
use Rattle.sentence.proofs.Soundness.{sound}
use Rattle.sentence.proofs.Sizes.{pattern_short}
use Rattle.sentence.proofs.WriteCases.{no_pattern}
use Rattle.sentence.proofs.write_sentence.Goals as goal
use Rattle.sentence.proofs.write_sentence.Goals.{In-Some}

pub pattern_of-requires : goal.pattern_of-requires
pattern_of-requires c = ap are_sound c.table.ensures ∙ sound

pub returns-in_default : goal.returns-in_default
unfolding write_sentence sentence_into
returns-in_default c =
    let a = c.args in
    let none : pattern_in sentences a.number ≡ [] = ap (λ (l : List Row). pattern_in l a.number) (sym c.table.ensures) ∙ c.in_default.ensures in
    let w = no_pattern (pattern_in sentences a.number) a.place a.lead a.out.now none in
    record { answer = ap Err c.at.ensures ∙ w.0; output = w.1 }

-- the pattern of the number in the list
own : (c : In-Some) → c.in-Some.pattern.now ≡ pattern_in sentences c.args.number
own c = let h = c.in-Some.ensures in h.same ∙ ap (λ (l : List Row). pattern_in l c.args.number) c.table.ensures

pub write-requires-clause-short : goal.write-requires-clause-short
write-requires-clause-short c = omega (arith, ap length (own (goal.at.write-requires-clause-short c).In-Some), pattern_short c.args.number)

pub returns : goal.returns
unfolding write_sentence sentence_into
returns c =
    let a = c.args in
    let w = c.write.ensures in
    let pattern = own (goal.at.returns c).In-Some in
    record {
      answer = w.answer ∙ ap (λ (l : List ℕ). write_pattern l a.place a.lead (length a.out.now)) pattern;
      output = w.output ∙ ap (λ (l : List ℕ). pattern_into l a.place a.lead a.out.now) pattern;
    }
