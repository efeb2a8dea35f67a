-- A text encoded and decoded comes back.
use mathlib.Core.Path.{◌≡◌, refl, sym, ◌∙◌, ap}
use mathlib.Core.List.{List, [], append-nil}
use mathlib.Core.Logic.{◌⊎◌, inl, inr, ◌≢◌}
use Prim.Native.Nat.{ℕ, zero, suc, ◌+◌, ◌-◌, ◌*◌, ◌/◌, ◌%◌, ◌<◌, ◌≤◌}
use native.Mathlib.Omega.{arith}
use borrow.Author.Tests.{eq-eqb, le-leb}
use lib.ListN.{length, take, get_or-eq_default}
use Rattle.lists.specs.Lists.{tab, num, over}
use Rattle.lists.proofs.Fronts.{take_over}
use Rattle.lists.proofs.Joins.{joined_ext, joined_tab}
use Rattle.lists.proofs.Tables.{tab_length, tab_at, tab_ext, tab_map, tab_take, tab_self}
use Rattle.refusal.specs.Checks.{IsSet}
use Rattle.refusal.proofs.Limits.{mode_range, lead_range}
use Rattle.decision.specs.Decision.{none}
use Rattle.decision.specs.declared.Character.{Character}
use Rattle.block_encoder.specs.Encoding.{on_air, count_sent}
use Rattle.block_decoder.specs.Decoding.{weighted_of, lead_in, character_at, codes_of, first_unclear, unless_unclear}
use Rattle.block_decoder.proofs.Clarity.{all_clear, clear_told}
use Rattle.demands.specs.Laws.{undamaged}
use Rattle.demands.proofs.Demands.{sent_character}
use Rattle.delivery.specs.Delivery.{delivery}
use Rattle.delivery.proofs.TextAnswers.{answers}
use Rattle.message_encoder.specs.Blocks.{block_count, block_at}
use Rattle.message_encoder.specs.Encoding.{block_codes, sent_tones, encode_message, message_encoded_into}
use Rattle.message_encoder.proofs.Counts.{count_covers, count_tight, count_mono}
use Rattle.message_encoder.proofs.EncodeCases.{encodes, tones_written}
use Rattle.message_encoder.proofs.SentBlocks.{sent_count, block_text_lem, block_code}
use Rattle.message_decoder.specs.Decoding.{heard_characters, message_characters, decode_message}
use Rattle.message_decoder.proofs.DecodeCases.{Hearable, judges, text_written}
use Rattle.message_demands.specs.Laws.{IsMessage, message_air, ComesBack, RoundTrip}
use Rattle.message_demands.proofs.SentMessages.{sent_block, sent_in_range, sendable}
use Rattle.std.proofs.Common.{Ok}

-- the decision on character i of a text heard as sent
abbrev heard_as : List ℕ → ℕ → Character
heard_as text i = undamaged (num text i)

-- ---- characters that are all heard as sent

module _ (text : List ℕ) (c : ℕ) where
  heard_clear : (m : ℕ) → m ≤ 64 → length (tab (heard_as text) c) ≤ first_unclear m (tab (heard_as text) c)
  heard_clear m h =
      all_clear m (tab (heard_as text) c) (λ i l. rw (lead_in, tab_at (heard_as text) none c i (omega (arith, tab_length (heard_as text) c))) h)

  codes_heard : codes_of (tab (heard_as text) c) ≡ tab (num text) c
  unfolding codes_of
  codes_heard = tab_map (λ x. x.code) (heard_as text) c

module _ (limit b m : ℕ) (text : List ℕ) (s : IsSet b m) (message : IsMessage limit text) where
  abbrev count : ℕ
  count = block_count b (length text)

  low : 1 ≤ b
  low = (mode_range b s.mode).0

  text_found : delivery limit b (tab (num text) (count * b)) ≡ Ok (length text)
  text_found =
      let codes : List ℕ = tab (num text) (count * b) in
      let same : (i : ℕ) → i < count * b → num codes i ≡ num text i = λ i l. tab_at (num text) 0 (count * b) i l in
      let covers : length text ≤ count * b = count_covers b (length text) low in
      let size : length codes ≡ count * b = tab_length (num text) (count * b) in
      let above : (i : ℕ) → i < length text → num codes i ≢ 0 = λ i l e. omega (arith, same i (omega arith), message.low i l) in
      (answers.delivers limit b codes (length text)
      (record {
        last = ending (length text) (λ l. above (length text - 1) (omega arith));
        zeros = λ j g l. same j (omega arith) ∙ get_or-eq_default text 0 g;
      })
      ).text above (omega (arith, count_tight b (length text) low)) message.count
    where
      ending : {P : Type 0} (n : ℕ) → (1 ≤ n → P) → (n ≡ 0) ⊎ P
      ending zero f = inl refl
      ending (suc n) f = inr (f (omega arith))

  heard_sent : unless_unclear m (tab (heard_as text) (count * b)) (delivery limit b (codes_of (tab (heard_as text) (count * b)))) ≡ Ok (length text)
  heard_sent =
      clear_told m (tab (heard_as text) (count * b)) _ (heard_clear text (count * b) m (lead_range m s.lead).1)
      ∙ ap (delivery limit b) (codes_heard text (count * b))
      ∙ text_found

  -- ---- what is heard of the tones sent

  character_sent : (n k q : ℕ) → k < n → q < b → character_at b (block_at (sent_tones b text n) k) q ≡ heard_as text (k * b + q)
  character_sent n k q h l =
      let block = rw append-nil at (sent_block b text n k [] h) in
      ap (λ (x : List ℕ). character_at b x q) block
      ∙ sent_character b (block_codes b text k) q s.mode (block_text_lem text (sendable limit text message b s.mode).codes b k) l
      ∙ ap undamaged (block_code b text k q l)

  characters_sent : (n : ℕ) → heard_characters b (sent_tones b text n) n ≡ tab (heard_as text) (n * b)
  unfolding heard_characters weighted_of
  characters_sent n =
      joined_ext _ (λ k. tab (λ q. heard_as text (k * b + q)) b) n (λ k h. tab_ext none _ _ b (λ q l. character_sent n k q h l))
      ∙ joined_tab (heard_as text) b n

  message_sent : message_characters b (sent_tones b text count) ≡ tab (heard_as text) (count * b)
  unfolding message_characters
  message_sent =
      let e : length (sent_tones b text count) / 64 ≡ count = omega (arith, sent_count b text count) in
      rw e (characters_sent count)

  hearable : (room : ℕ) → count * b ≤ room → Hearable limit b m (sent_tones b text count) room
  hearable room h =
      let size : length (sent_tones b text count) ≡ 64 * count = sent_count b text count in
      record {
        passed = record {
          mode = s.mode;
          lead = s.lead;
          whole =
              rw (size, eq-eqb (64 * count % 64) 0 (omega arith))
              (le-leb (64 * count) (64 * block_count b limit) (omega (arith, count_mono b (length text) low limit message.count)));
          fits = let e : 64 * count / 64 ≡ count = omega arith in rw (size, e) h;
        };
        in_range = sent_in_range b text count;
      }

  module _ (tones out : List ℕ) (room_sent : 64 * count ≤ length tones) (room-heard : count * b ≤ length out) where
    accepted : encode_message limit b text (length tones) ≡ Ok (64 * count)
    accepted = encodes limit b text (length tones) (sendable limit text message b s.mode) room_sent

    air_sent : message_air limit b text tones ≡ sent_tones b text count
    unfolding on_air
    air_sent =
        ap (λ (n : ℕ). take n (message_encoded_into limit b text tones)) (ap count_sent accepted)
        ∙ ap (take (64 * count)) (tones_written limit b text tones accepted)
        ∙ take_over (sent_tones b text count) tones (64 * count) (sent_count b text count)

    answer : decode_message limit b m (message_air limit b text tones) (length out) ≡ Ok (length text)
    answer =
        rw air_sent
        (judges limit b m (sent_tones b text count) (length out) (hearable (length out) room-heard)
        ∙ ap (λ (x : List Character). unless_unclear m x (delivery limit b (codes_of x))) message_sent
        ∙ heard_sent)

    codes_sent : codes_of (message_characters b (message_air limit b text tones)) ≡ tab (num text) (count * b)
    codes_sent = ap (λ (x : List ℕ). codes_of (message_characters b x)) air_sent ∙ ap codes_of message_sent ∙ codes_heard text (count * b)

    comes_back : ComesBack limit b m text tones out
    comes_back =
        let covers : length text ≤ count * b = count_covers b (length text) low in
        record {
          sent = accepted;
          answer = answer;
          written =
              text_written limit b m (message_air limit b text tones) out answer
              ∙ ap (λ (x : List ℕ). over x out)
              (ap (take (length text)) codes_sent
              ∙ sym (tab_take 0 (tab (num text) (count * b)) (length text) (omega (arith, tab_length (num text) (count * b))))
              ∙ tab_ext 0 (num (tab (num text) (count * b))) (num text) (length text) (λ i l. tab_at (num text) 0 (count * b) i (omega arith))
              ∙ tab_self 0 text);
        }

pub round_trip : RoundTrip
round_trip = record { back = λ limit b m text tones out s message room_sent room-heard. comes_back limit b m text s message tones out room_sent room-heard }
