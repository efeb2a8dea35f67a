-- A test of a row, and the law that turns it into what the row says.
use mathlib.Core.Path.{◌≡◌, refl, sym, ◌∙◌, ap, ap₂, subst}
use mathlib.Core.Bool.{Bool, true, false, ◌&&◌}
use mathlib.Core.List.{List, [], ◌∷◌}
use mathlib.Core.Logic.{⊎_elim}
use Prim.Native.Nat.{ℕ, ◌+◌, ◌*◌, ◌≤◌}
use native.Mathlib.Omega.{arith}
use lib.Dec.{T, leb, eqb, leb→le, eqb→eq}
use lib.ListN.{length, take, replicate}
use lib.Ieee.{Float, nan, inf, fin, up, down}
use lib.Ieee.Bits.{is_true}
use lib.Ieee.Exact.{HasValue}
use lib.Ieee.Fits.{and_l, and_r}
use Rattle.lists.specs.Lists.{num}
use Rattle.refusal.specs.declared.Reason.{Reason}
use Rattle.refusal.specs.Refused.{Answered, unclear_at}
use Rattle.refusal.specs.Checks.{is_lead, IsSet}
use Rattle.decision.specs.declared.Character.{Character}
use Rattle.chain.specs.Tables.{symbol_of}
use Rattle.tone_range.specs.Range.{first_bad_tone}
use Rattle.weight_range.proofs.Ranges.{weights_in_range, has_throughout}
use Rattle.block_encoder.specs.Encoding.{encoded_into}
use Rattle.block_decoder.specs.Decoding.{plain, codes_of, lead_in, decode_block}
use Rattle.block_decoder.specs.declared.BlockDecoded.{BlockDecoded}
use Rattle.block_decoder.proofs.DecodeCases.{judged, judges}
use Rattle.block_decoder.proofs.Answers.{passed}
use Rattle.demands.specs.Demand.{replaced_in, missing_in}
use Rattle.lead_laws.specs.Laws.{BecomesUnclear}
use Rattle.lead_laws.proofs.Raises.{raised_lead}
use Rattle.band.specs.Frequencies.{frequency_of}
use Rattle.bench_sheet.specs.Heard.{case_1, Accepts}
use Rattle.bench_sheet.specs.Sheet.{Row, b=◌codes◌first_tones◌, tone◌is_symbol◌, ◌r=◌u=◌, ◌m=◌accepts_code◌lead◌, ◌m=◌refuses_10_place◌lead◌, ◌at_every_m_refuses_10_place◌lead◌, ◌has_lead◌, ◌just_beyond_demand_3_at_m=◌, b=◌B◌centre◌tone◌at◌thousandths, Holds, Each}
use Rattle.bench_sheet.proofs.Quick.{quick_of, characters_quick}
use Rattle.std.proofs.Common.{Ok, Err}

-- ---- lists of numbers

abbrev same : List ℕ → List ℕ → Bool
same [] [] = true
same [] (y ∷ ys) = false
same (x ∷ xs) [] = false
same (x ∷ xs) (y ∷ ys) = eqb x y && same xs ys

same_lists : (xs ys : List ℕ) → T (same xs ys) → xs ≡ ys
same_lists [] [] t = refl
same_lists [] (y ∷ ys) t = absurd t
same_lists (x ∷ xs) [] t = absurd t
same_lists (x ∷ xs) (y ∷ ys) t =
    ap₂ (λ (z : ℕ) (zs : List ℕ). z ∷ zs) (eqb→eq x y (and_l (eqb x y) (same xs ys) t)) (same_lists xs ys (and_r (eqb x y) (same xs ys) t))

-- ---- answers

abbrev is_text_lem : Answered ℕ → Bool
is_text_lem (Ok n) = eqb n 1
is_text_lem (Err r) = false

text : (d : Answered ℕ) → T (is_text_lem d) → d ≡ Ok 1
text (Ok n) t = ap Ok (eqb→eq n 1 t)
text (Err r) t = absurd t

abbrev is_accepted : BlockDecoded → ℕ → ℕ → Bool
is_accepted d v l = is_text_lem d.answer && (eqb (num (codes_of d.characters) 0) v && eqb (lead_in d.characters 0) l)

accepted : (d : BlockDecoded) (v l : ℕ) → T (is_accepted d v l) → Accepts d v l
accepted d v l t =
    let first = is_text_lem d.answer in
    let second = eqb (num (codes_of d.characters) 0) v in
    let third = eqb (lead_in d.characters 0) l in
    let rest = and_r first (second && third) t in
    record {
      answer = text d.answer (and_l first (second && third) t);
      its_code = eqb→eq (num (codes_of d.characters) 0) v (and_l second third rest);
      its_lead = eqb→eq (lead_in d.characters 0) l (and_r second third rest);
    }

abbrev is_reason_unclear : Reason → Bool
is_reason_unclear Reason.Unclear = true
is_reason_unclear other = false

reason_unclear : (reason : Reason) → T (is_reason_unclear reason) → reason ≡ Reason.Unclear
reason_unclear Reason.Unclear t = refl
reason_unclear other t = absurd t

abbrev is_unclear : Answered ℕ → ℕ → ℕ → Bool
is_unclear (Ok n) q l = false
is_unclear (Err r) q l = is_reason_unclear r.reason && (eqb r.place q && eqb r.lead l)

unclear : (d : Answered ℕ) (q l : ℕ) → T (is_unclear d q l) → d ≡ Err (unclear_at q l)
unclear (Ok n) q l t = absurd t
unclear (Err r) q l t =
    let first = is_reason_unclear r.reason in
    let second = eqb r.place q in
    let third = eqb r.lead l in
    let rest = and_r first (second && third) t in
    let its_reason : r.reason ≡ Reason.Unclear = reason_unclear r.reason (and_l first (second && third) t) in
    let its_place : r.place ≡ q = eqb→eq r.place q (and_l second third rest) in
    let its_lead : r.lead ≡ l = eqb→eq r.lead l (and_r second third rest) in
    λ i. Err (record { reason = its_reason i; place = its_place i; lead = its_lead i })

abbrev is_value : Float → ℕ → ℕ → Bool
is_value nan k c = false
is_value (inf s) k c = false
is_value (fin true m e) k c = false
is_value (fin false m e) k c = eqb (m * up e * c) (k * down e)

value : (x : Float) (k c : ℕ) → T (is_value x k c) → HasValue x false k c
value nan k c t = absurd t
value (inf s) k c t = absurd t
value (fin true m e) k c t = absurd t
value (fin false m e) k c t = (refl, eqb→eq (m * up e * c) (k * down e) t)

abbrev is_hertz : Answered Float → ℕ → ℕ → Bool
is_hertz (Ok x) k c = is_value x k c
is_hertz (Err r) k c = false

hertz : (f : Answered Float) (k c : ℕ) → T (is_hertz f k c) → (x : Float) × (f ≡ Ok x) × HasValue x false k c
hertz (Ok x) k c t = (x, refl, value x k c t)
hertz (Err r) k c t = absurd t

-- ---- blocks at b = 1

-- every check before the characters is passed
abbrev is_whole : ℕ → List ℕ → Bool
is_whole m heard = is_lead m && (eqb (length heard) 64 && leb 64 (first_bad_tone 2 heard))

-- what is then answered
abbrev quick : ℕ → List ℕ → BlockDecoded
quick m heard = judged 1 m (quick_of 1 heard plain)

decoded_quick : (m : ℕ) (heard : List ℕ) → T (is_whole m heard) → decode_block 1 m heard 1 ≡ quick m heard
decoded_quick m heard t =
    let first = is_lead m in
    let second = eqb (length heard) 64 in
    let third = leb 64 (first_bad_tone 2 heard) in
    let rest = and_r first (second && third) t in
    let set : IsSet 1 m = record { mode = refl; lead = is_true first (and_l first (second && third) t) } in
    judges 1 1 m heard plain 1
    (passed 1 m heard 1 set (eqb→eq (length heard) 64 (and_l second third rest)) (omega arith))
    (leb→le 64 (first_bad_tone 2 heard) (and_r second third rest))
    (weights_in_range 1 plain (has_throughout 1 1 (omega arith)))
    ∙ ap (judged 1 m) (characters_quick 1 heard plain)

-- what is refused as unclear at m = 1 is so at every m, with the same lead
at_every_m : (heard : List ℕ) (q l : ℕ) → q ≡ 0 → (decode_block 1 1 heard 1).answer ≡ Err (unclear_at q l)
    → lead_in (decode_block 1 1 heard 1).characters q ≡ l
    → (m : ℕ) → 1 ≤ m → m ≤ 64 → (decode_block 1 m heard 1).answer ≡ Err (unclear_at q l)
at_every_m heard q l first answer its_lead m low high =
    ⊎_elim (λ s. ap (λ (d : BlockDecoded). d.answer) s.answer ∙ answer) becomes
    (raised_lead.raised 1 1 1 m heard plain (0 ∷ []) (omega arith) low high).either
  where
    becomes : BecomesUnclear 1 1 1 m heard plain (0 ∷ []) → (decode_block 1 m heard 1).answer ≡ Err (unclear_at q l)
    becomes u =
        let place : u.unclear.place ≡ q = omega (arith, u.unclear.inside) in
        u.unclear.refused
        ∙ ap (λ (k : ℕ). Err (unclear_at k (lead_in (decode_block 1 m heard 1).characters k))) place
        ∙ ap (λ (n : ℕ). Err (unclear_at q n)) (ap (λ (x : List Character). lead_in x q) u.records ∙ its_lead)

-- ---- rows

abbrev passes : Row → Bool
passes (b= b codes vs first_tones ts) = same (take (length ts) (encoded_into b vs (replicate 64 0))) ts
passes (tone g is_symbol s) = eqb (symbol_of g) s
passes (heard r= r u= u) = eqb (replaced_in case_1 heard) r && eqb (missing_in heard) u
passes (heard m= m accepts_code v lead l) = is_whole m heard && is_accepted (quick m heard) v l
passes (heard m= m refuses_10_place q lead l) = is_whole m heard && is_unclear (quick m heard).answer q l
passes (heard at_every_m_refuses_10_place q lead l) = is_whole 1 heard && (eqb q 0 && (is_unclear (quick 1 heard).answer q l && eqb (lead_in (quick 1 heard).characters q) l))
passes (heard has_lead l) = eqb (lead_in (quick_of 1 heard plain) 0) l
passes (heard just_beyond_demand_3_at_m= m) = eqb (2 * missing_in heard + 4 * replaced_in case_1 heard) (64 + m)
passes (b= b B w centre c tone n at k thousandths) = is_hertz (frequency_of b w c n) k 1000

holds : (row : Row) → T (passes row) → Holds row
holds (b= b codes vs first_tones ts) t = same_lists (take (length ts) (encoded_into b vs (replicate 64 0))) ts t
holds (tone g is_symbol s) t = eqb→eq (symbol_of g) s t
holds (heard r= r u= u) t =
    let replaced = eqb (replaced_in case_1 heard) r in
    let missing = eqb (missing_in heard) u in
    (eqb→eq (replaced_in case_1 heard) r (and_l replaced missing t), eqb→eq (missing_in heard) u (and_r replaced missing t))
holds (heard m= m accepts_code v lead l) t =
    let whole = is_whole m heard in
    let its = is_accepted (quick m heard) v l in
    subst (λ (d : BlockDecoded). Accepts d v l) (sym (decoded_quick m heard (and_l whole its t))) (accepted (quick m heard) v l (and_r whole its t))
holds (heard m= m refuses_10_place q lead l) t =
    let whole = is_whole m heard in
    let its = is_unclear (quick m heard).answer q l in
    ap (λ (d : BlockDecoded). d.answer) (decoded_quick m heard (and_l whole its t)) ∙ unclear (quick m heard).answer q l (and_r whole its t)
holds (heard at_every_m_refuses_10_place q lead l) t =
    let whole = is_whole 1 heard in
    let first = eqb q 0 in
    let second = is_unclear (quick 1 heard).answer q l in
    let third = eqb (lead_in (quick 1 heard).characters q) l in
    let rest = and_r whole (first && (second && third)) t in
    let its = and_r first (second && third) rest in
    let same = decoded_quick 1 heard (and_l whole (first && (second && third)) t) in
    at_every_m heard q l (eqb→eq q 0 (and_l first (second && third) rest))
    (ap (λ (d : BlockDecoded). d.answer) same ∙ unclear (quick 1 heard).answer q l (and_l second third its))
    (ap (λ (d : BlockDecoded). lead_in d.characters q) same ∙ eqb→eq (lead_in (quick 1 heard).characters q) l (and_r second third its))
holds (heard has_lead l) t =
    ap (λ (x : List Character). lead_in x 0) (characters_quick 1 heard plain) ∙ eqb→eq (lead_in (quick_of 1 heard plain) 0) l t
holds (heard just_beyond_demand_3_at_m= m) t = eqb→eq (2 * missing_in heard + 4 * replaced_in case_1 heard) (64 + m) t
holds (b= b B w centre c tone n at k thousandths) t = hertz (frequency_of b w c n) k 1000 t

abbrev all_pass : List Row → Bool
all_pass [] = true
all_pass (row ∷ rows) = passes row && all_pass rows

pub each_holds : (rows : List Row) → T (all_pass rows) → Each rows
each_holds [] t = tt
each_holds (row ∷ rows) t = (holds row (and_l (passes row) (all_pass rows) t), each_holds rows (and_r (passes row) (all_pass rows) t))
