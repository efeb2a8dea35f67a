-- What an answer tells of the check before it; and an answer that is told by a record.
use Rattle.std.proofs.Common.{◌≡◌, refl, ap, Bool, true, false, cond, Ok, Err}
use Rattle.refusal.specs.Refused.{Answered}
use Rattle.refusal.specs.declared.Refusal.{Refusal}

-- what is answered after a check is answered where it is passed
pub passes : {A : Type 0} (t : Bool) (r : Refusal) (l : Answered A) (x : A) → cond t (Err r) l ≡ Ok x → (t ≡ false) × (l ≡ Ok x)
passes true r l x e = absurd cc
passes false r l x e = (refl, e)

-- ---- told by a record: where a check refuses, and where all are passed

module _ {A D : Type 0} (told : Refusal → D) (x : A) (done : D) where
  -- d is what is told of l: the refusal, or done for x
  pub record Agrees (l : Answered A) (d : D) : Type 0 where
    pub refused_as : (r : Refusal) → l ≡ Err r → d ≡ told r
    pub passed_as : (y : A) → l ≡ Ok y → (y ≡ x) × (d ≡ done)

module _ {A D : Type 0} {told : Refusal → D} {x : A} {done : D} where
  pub agrees_refused : (r : Refusal) → Agrees told x done (Err r) (told r)
  agrees_refused r = record { refused_as = λ s e. let same : r ≡ s = cc in ap told same; passed_as = λ y e. absurd cc }

  pub agrees_done : Agrees told x done (Ok x) done
  agrees_done = record { refused_as = λ r e. absurd cc; passed_as = λ y e. (cc, refl) }

  pub agrees_unless : (t : Bool) {l k : Answered A} {d e : D} → Agrees told x done l d → Agrees told x done k e → Agrees told x done (cond t l k) (cond t d e)
  agrees_unless true p q = p
  agrees_unless false p q = q
