-- What one byte of a pattern takes, as it is told, over plain variables.
use Rattle.std.proofs.Common.{◌≡◌, refl, ◌∙◌, Bool, true, false, cond, List, [], ◌∷◌, ℕ, ◌<◌, ◌≤◌, length, get_or, eqb, arith, Option, Some, None}
use Rattle.std.specs.Bool.{then_some}
use borrow.Author.Tests.{eq-eqb, ne_eqb}
use Rattle.sentence.specs.Patterns.{place_mark, lead_mark}
use Rattle.sentence.specs.Reading.{scan_from, starts_with, piece}
use Rattle.sentence.specs.Internal.{taken}

module _ (p : ℕ) (bytes : List ℕ) where
  pub piece_at_place : p ≡ 35 → taken (scan_from 65535 false 0 bytes) ≡ taken (piece p bytes)
  unfolding piece
  piece_at_place e = rw (eq-eqb p place_mark e)

  pub piece_at_lead : p ≡ 37 → taken (scan_from 960 false 0 bytes) ≡ taken (piece p bytes)
  unfolding piece
  piece_at_lead e = let no_place : eqb p place_mark ≡ false = ne_eqb p place_mark (λ f. omega arith) in rw (no_place, eq-eqb p lead_mark e)

  module _ (no_place : p ≡ 35 → ⊥) (no_lead : p ≡ 37 → ⊥) where
    piece_byte : then_some (starts_with p bytes) (1, 0) ≡ taken (piece p bytes)
    unfolding piece taken
    piece_byte = rw (ne_eqb p place_mark no_place, ne_eqb p lead_mark no_lead) (by (starts_with p bytes))
      where
        by : (t : Bool) → then_some t (1, 0) ≡ cond {A = Option (ℕ × ℕ)} (eqb (cond t 1 0) 0) None (Some (cond t 1 0, 0))
        by true = refl
        by false = refl

    pub piece_none : length bytes < 1 → None ≡ taken (piece p bytes)
    unfolding starts_with
    piece_none h = by bytes h ∙ piece_byte
      where
        by : (l : List ℕ) → length l < 1 → None ≡ then_some {T = ℕ × ℕ} (starts_with p l) (1, 0)
        by [] k = refl
        by (c ∷ l) k = absurd (omega arith)

    pub piece_first : 1 ≤ length bytes → then_some (eqb (get_or bytes 0 0) p) (1, 0) ≡ taken (piece p bytes)
    unfolding starts_with
    piece_first h = by bytes h ∙ piece_byte
      where
        by : (l : List ℕ) → 1 ≤ length l → then_some {T = ℕ × ℕ} (eqb (get_or l 0 0) p) (1, 0) ≡ then_some (starts_with p l) (1, 0)
        by [] k = absurd (omega arith)
        by (c ∷ l) k = refl
