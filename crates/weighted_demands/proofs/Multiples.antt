-- Weights and set lead k times as large: the same answer with leads k times as large, so that plain hearing is a case of hearing with weights.
use mathlib.Core.Path.{◌≡◌, refl, sym, ◌∙◌, ap, ap₂}
use mathlib.Core.Bool.{Bool, true, false, cond, not}
use mathlib.Core.List.{List, map}
use Prim.Native.Nat.{ℕ, ◌+◌, ◌*◌, ◌<◌, ◌≤◌, ◌^◌, ◌%◌}
use native.Mathlib.Decide.{dec_lt, dec_le}
use native.Mathlib.Nat.{mul-zero, mul_left_comm, mul-le-mul_left, mul-lt-mul_of_pos_left}
use native.Mathlib.Omega.{arith}
use borrow.Author.Tests.{lt-ltb, le-ltb, le-leb}
use lib.Dec.{ltb, eqb}
use lib.IntN.{pos, ◌*ℤ◌, *ℤ-zero}
use lib.ListN.{length, get_or, replicate, length-map, get_or-map}
use Rattle.lists.specs.Lists.{num, over}
use Rattle.lists.proofs.Fronts.{over_map}
use Rattle.lists.proofs.Places.{first_ext}
use Rattle.lists.proofs.Sums.{sum_ext}
use Rattle.lists.proofs.Tables.{tab_ext, tab_map}
use Rattle.refusal.specs.declared.Reason.{Reason}
use Rattle.refusal.specs.Checks.{is_mode, is_lead_at}
use Rattle.refusal.specs.Refused.{Answered, unclear_at}
use Rattle.refusal.proofs.Limits.{within_true, below_low, above_high}
use Rattle.walsh.specs.Words.{minus, signed, turned, corr}
use Rattle.decision.specs.Decision.{none}
use Rattle.decision.specs.declared.Character.{Character}
use Rattle.decision.proofs.Choice.{same_character, counts_decide}
use Rattle.scaling.specs.Scaled.{times_character}
use Rattle.scaling.proofs.Products.{times_signed}
use Rattle.scaling.proofs.Scaled.{scaling_law}
use Rattle.chain.specs.Chain.{missing_mark, bit, key_bit}
use Rattle.tone_range.specs.Range.{first_bad_tone}
use Rattle.weight_range.specs.Range.{throughout, first_bad_weight}
use Rattle.weight_range.proofs.Ranges.{weights_in_range, has_throughout}
use Rattle.block_decoder.specs.Decoding.{plain, symbols_of, count_of, count_in, weighted_at, weighted_of, codes_of, lead_in, first_unclear, unless_unclear, padded, refused, heard_block, heard_into, heard_block_into}
use Rattle.block_decoder.specs.declared.BlockDecoded.{BlockDecoded}
use Rattle.block_decoder.proofs.Characters.{codes_are}
use Rattle.block_decoder.proofs.DecodeCases.{judged}
use Rattle.weighted_demands.specs.Laws.{times_answer, times_block, PlainCase}
use Rattle.std.proofs.Common.{Ok, Err}

-- each weight k times as large
abbrev pub times_weights : ℕ → List ℕ → List ℕ
times_weights k weights = map (λ w. k * w) weights

module _ (k : ℕ) (low : 1 ≤ k) where
  -- ---- tests

  ltb_times : (a c : ℕ) → ltb (k * a) (k * c) ≡ ltb a c
  ltb_times a c = by (dec_lt a c)
    where
      by : Dec (a < c) → ltb (k * a) (k * c) ≡ ltb a c
      by (yes l) = lt-ltb (k * a) (k * c) (mul-lt-mul_of_pos_left l low) ∙ sym (lt-ltb a c l)
      by (no n) =
          let l : c ≤ a = omega arith in
          le-ltb (k * a) (k * c) (mul-le-mul_left k l) ∙ sym (le-ltb a c l)

  limit_times : (N m : ℕ) → is_lead_at (k * N) (k * m) ≡ is_lead_at N m
  limit_times N m = by (dec_lt m 1) (dec_le m (64 * N))
    where
      same : 64 * (k * N) ≡ k * (64 * N)
      same = mul_left_comm 64 k N

      by : Dec (m < 1) → Dec (m ≤ 64 * N) → is_lead_at (k * N) (k * m) ≡ is_lead_at N m
      by (yes l) d =
          let e : m ≡ 0 = omega arith in
          let g : k * m < 1 = omega (arith, ap (λ (n : ℕ). k * n) e, mul-zero k) in
          below_low 1 (64 * (k * N)) (k * m) g ∙ sym (below_low 1 (64 * N) m l)
      by (no n) (yes l) =
          let f : 1 ≤ m = omega arith in
          let g : k * 1 ≤ k * m = mul-le-mul_left k f in
          within_true 1 (64 * (k * N)) (k * m) (omega arith) (rw same (mul-le-mul_left k l)) ∙ sym (within_true 1 (64 * N) m f l)
      by (no n) (no l) =
          let f : 64 * N < m = omega arith in
          above_high 1 (64 * (k * N)) (k * m) (rw same (mul-lt-mul_of_pos_left f low)) ∙ sym (above_high 1 (64 * N) m f)

  -- ---- weights

  weight_times : (weights : List ℕ) (t : ℕ) → num (times_weights k weights) t ≡ k * num weights t
  weight_times weights t = ap (get_or (times_weights k weights) t) (sym (mul-zero k)) ∙ get_or-map (λ (w : ℕ). k * w) weights t 0

  bad_weight_times : (N : ℕ) (weights : List ℕ) → first_bad_weight (k * N) (times_weights k weights) ≡ first_bad_weight N weights
  unfolding first_bad_weight
  bad_weight_times N weights =
      rw (length-map weights (λ (w : ℕ). k * w))
      (first_ext _ _ (length weights) (λ t l. ap (ltb (k * N)) (weight_times weights t) ∙ ltb_times N (num weights t)))

  -- ---- characters

  count_times : (key : Bool) (place weight symbol : ℕ) → count_of key place (k * weight) symbol ≡ pos k *ℤ count_of key place weight symbol
  unfolding count_of
  count_times key place weight symbol = by (eqb symbol missing_mark)
    where
      sign : Bool
      sign = turned key (bit symbol place)

      by : (u : Bool) → cond u (pos 0) (signed sign (pos (k * weight))) ≡ pos k *ℤ cond u (pos 0) (signed sign (pos weight))
      by true = sym (*ℤ-zero (pos k))
      by false = sym (times_signed k sign (pos weight))

  module _ (b : ℕ) (tones weights : List ℕ) where
    counts_times : (q t : ℕ) → count_in b (symbols_of tones) (times_weights k weights) q t ≡ pos k *ℤ count_in b (symbols_of tones) weights q t
    unfolding count_in
    counts_times q t =
        ap (λ (w : ℕ). count_of (key_bit q t) ((q + t) % b) w (num (symbols_of tones) t)) (weight_times weights t)
        ∙ count_times (key_bit q t) ((q + t) % b) (num weights t) (num (symbols_of tones) t)

    pub correlations_times : (q c : ℕ) → corr (count_in b (symbols_of tones) (times_weights k weights) q) c ≡ pos k *ℤ corr (count_in b (symbols_of tones) weights q) c
    unfolding corr
    correlations_times q c =
        sum_ext 64 _ _ (λ t l. ap (signed (minus c t)) (counts_times q t)) ∙ scaling_law.correlations k (count_in b (symbols_of tones) weights q) c

    character_times : (q : ℕ) → weighted_at b tones (times_weights k weights) q ≡ times_character k (weighted_at b tones weights q)
    unfolding weighted_at
    character_times q =
        counts_decide _ (λ t. pos k *ℤ count_in b (symbols_of tones) weights q t) (λ t l. counts_times q t)
        ∙ scaling_law.decisions k (count_in b (symbols_of tones) weights q) low

    characters_times : weighted_of b tones (times_weights k weights) ≡ map (times_character k) (weighted_of b tones weights)
    unfolding weighted_of
    characters_times = tab_ext none _ _ b (λ q l. character_times q) ∙ sym (tab_map (times_character k) (weighted_at b tones weights) b)

    codes_times : codes_of (weighted_of b tones (times_weights k weights)) ≡ codes_of (weighted_of b tones weights)
    codes_times =
        codes_are b tones (times_weights k weights)
        ∙ tab_ext 0 _ _ b (λ q l. ap (λ (c : Character). c.code) (character_times q))
        ∙ sym (codes_are b tones weights)

  none_times : times_character k none ≡ none
  none_times = same_character refl (mul-zero k) refl (*ℤ-zero (pos k)) refl (*ℤ-zero (pos k))

  nones_times : map (times_character k) (replicate 8 none) ≡ replicate 8 none
  nones_times = ap (λ (c : Character). replicate 8 c) none_times

  -- ---- the answer on some characters

  module _ (characters : List Character) where
    abbrev larger : List Character
    larger = map (times_character k) characters

    padded_times : padded larger ≡ map (times_character k) (padded characters)
    unfolding padded
    padded_times = sym (over_map (times_character k) characters (replicate 8 none) ∙ ap (over larger) nones_times)

    lead_times : (q : ℕ) → lead_in larger q ≡ k * lead_in characters q
    lead_times q =
        ap (λ (c : Character). c.lead) (ap (get_or larger q) (sym none_times) ∙ get_or-map (times_character k) characters q none)

    unclear_times : (m : ℕ) → first_unclear (k * m) larger ≡ first_unclear m characters
    unfolding first_unclear
    unclear_times m =
        rw (length-map characters (times_character k))
        (first_ext _ _ (length characters) (λ q l. ap (λ (n : ℕ). ltb n (k * m)) (lead_times q) ∙ ltb_times (lead_in characters q) m))

    judgement_times : (b m : ℕ) → unless_unclear (k * m) larger (Ok b) ≡ times_answer k (unless_unclear m characters (Ok b))
    unfolding unless_unclear
    judgement_times b m =
        rw (unclear_times m, length-map characters (times_character k), lead_times (first_unclear m characters))
        (by (ltb (first_unclear m characters) (length characters)))
      where
        by : (u : Bool)
            → cond u (Err (unclear_at (first_unclear m characters) (k * lead_in characters (first_unclear m characters)))) (Ok b)
            ≡ times_answer k (cond u (Err (unclear_at (first_unclear m characters) (lead_in characters (first_unclear m characters)))) (Ok b))
        by true = refl
        by false = refl

    judged_times : (b m : ℕ) → judged b (k * m) larger ≡ times_block k (judged b m characters)
    unfolding times_block
    judged_times b m = λ i. record { answer = judgement_times b m i; characters = padded_times i }

  -- ---- the answer on a block

  refused_times : (reason : Reason) (place : ℕ) → refused reason place ≡ times_block k (refused reason place)
  unfolding refused times_block
  refused_times reason place =
      λ i. record { answer = Err (record { reason = reason; place = place; lead = sym (mul-zero k) i }); characters = sym nones_times i }

  -- one check of the answer
  check_times : (u : Bool) (reason : Reason) (place : ℕ) (x y : BlockDecoded) → x ≡ times_block k y
      → cond u (refused reason place) x ≡ times_block k (cond u (refused reason place) y)
  check_times true reason place x y e = refused_times reason place
  check_times false reason place x y e = e

  pub heard_times : (N b m : ℕ) (tones weights : List ℕ) (room : ℕ)
      → heard_block (k * N) b (k * m) tones (times_weights k weights) room ≡ times_block k (heard_block N b m tones weights room)
  unfolding heard_block
  heard_times N b m tones weights room =
      rw (limit_times N m, length-map weights (λ (w : ℕ). k * w), bad_weight_times N weights)
      (check_times (not (is_mode b)) Reason.Mode 0 _ _
      (check_times (not (is_lead_at N m)) Reason.LeastLead 0 _ _
      (check_times (not (eqb (length tones) 64)) Reason.ToneCount 0 _ _
      (check_times (not (eqb (length weights) 64)) Reason.ToneCount 0 _ _
      (check_times (ltb room b) Reason.Room 0 _ _
      (check_times (ltb (first_bad_tone (2 ^ b) tones) 64) Reason.Tone (first_bad_tone (2 ^ b) tones) _ _
      (check_times (ltb (first_bad_weight N weights) 64) Reason.Weight (first_bad_weight N weights) _ _
      (ap (judged b (k * m)) (characters_times b tones weights) ∙ judged_times (weighted_of b tones weights) b m))))))))

  into_times : (answer : Answered ℕ) (codes out : List ℕ) → heard_into (times_answer k answer) codes out ≡ heard_into answer codes out
  unfolding heard_into
  into_times (Ok n) codes out = refl
  into_times (Err r) codes out = refl

  pub heard_into_times : (N b m : ℕ) (tones weights out : List ℕ)
      → heard_block_into (k * N) b (k * m) tones (times_weights k weights) out ≡ heard_block_into N b m tones weights out
  unfolding heard_block_into times_block
  heard_into_times N b m tones weights out =
      ap₂ (λ (d : BlockDecoded) (codes : List ℕ). heard_into d.answer codes out) (heard_times N b m tones weights (length out)) (codes_times b tones weights)
      ∙ into_times (heard_block N b m tones weights (length out)).answer (codes_of (weighted_of b tones weights)) out

-- ---- plain hearing

throughout_times : (k weight : ℕ) → throughout (k * weight) ≡ times_weights k (throughout weight)
unfolding throughout
throughout_times k weight = refl

-- up to 64, a set lead is within the limits of both
lead_within : (m : ℕ) → m ≤ 64 → is_lead_at 15 m ≡ is_lead_at 1 m
lead_within m h = rw (le-leb m 960 (omega arith), le-leb m 64 h)

weight_one_answer_plain : (b m : ℕ) (tones : List ℕ) (room : ℕ) → m ≤ 64 → heard_block 15 b m tones plain room ≡ heard_block 1 b m tones plain room
unfolding heard_block
weight_one_answer_plain b m tones room h =
    rw (
      lead_within m h,
      le-ltb (first_bad_weight 15 plain) 64 (weights_in_range 15 plain (has_throughout 1 15 (omega arith))),
      le-ltb (first_bad_weight 1 plain) 64 (weights_in_range 1 plain (has_throughout 1 1 (omega arith))),
    )

weight_one_output_plain : (b m : ℕ) (tones out : List ℕ) → m ≤ 64 → heard_block_into 15 b m tones plain out ≡ heard_block_into 1 b m tones plain out
unfolding heard_block_into
weight_one_output_plain b m tones out h =
    ap (λ (d : BlockDecoded). heard_into d.answer (codes_of (weighted_of b tones plain)) out) (weight_one_answer_plain b m tones (length out) h)

pub plain_case_law : PlainCase
plain_case_law = record {
  answer = λ b m tones room. rw (throughout_times 15 1) (heard_times 15 (omega arith) 1 b m tones plain room);
  output = λ b m tones out. rw (throughout_times 15 1) (heard_into_times 15 (omega arith) 1 b m tones plain out);
  correlations = λ b tones q c. rw (throughout_times 15 1) (correlations_times 15 (omega arith) b tones plain q c);
  one_answer = weight_one_answer_plain;
  one_output = weight_one_output_plain;
}
