-- A piece as it is heard line by line: before each turn, what was written and what the bytes left say are what the piece says.
use mathlib.Core.Path.{◌≡◌, refl, sym, ◌∙◌, ap, ap₂}
use mathlib.Core.List.{List, [], ◌++◌, append-nil}
use Prim.Native.Nat.{ℕ, suc, ◌+◌, ◌*◌, ◌<◌, ◌≤◌}
use native.Mathlib.Omega.{arith}
use lib.ListN.{length, take, drop, length-drop, drop_of_length-le}
use lib.Seq.{drop-drop}
use Rattle.lists.specs.Lists.{over}
use Rattle.reader.specs.Reader.{end_tones, line_from}
use Rattle.text.proofs.Puts.{Put, put_none}
use Rattle.stages.specs.declared.Listing.{Listing}
use Rattle.stages.specs.declared.Progress.{Progress}
use Rattle.stages.specs.Stages.{Said, told}
use Rattle.judge.specs.Judged.{closed}
use Rattle.listing.specs.Steps.{and_then, piece_said, piece_tones}
use Rattle.listing.specs.Internal.{tones_read, read_from}
use Rattle.listing.specs.declared.Within.{Within}
use Rattle.listing.proofs.Lines.{then_then, line_said, line_tones, line_said_lem, rest_said}
use Rattle.listing.proofs.Room.{due, due_most, due_read, closed_paid}
use Rattle.listing.proofs.Parts.{put_part, put_within_part}

pub record Hears (bytes tones₀ out₀ : List ℕ) (s₀ : Listing) (tones out : List ℕ) (s : Listing) (written from : ℕ) : Type 0 where
  pub text : List ℕ
  pub put : Put text out₀ written out
  pub said : piece_said s₀ tones₀ bytes ≡ and_then text (piece_said s tones (drop from bytes))
  pub kept : piece_tones s₀ tones₀ bytes ≡ piece_tones s tones (drop from bytes)
  pub paid : written + 8 * due s ≤ 8 * (639 + from)

pub hears_begun : (bytes tones out : List ℕ) (s : Listing) → s.line.count ≤ 255 → Hears bytes tones out s tones out s 0 0
unfolding and_then
hears_begun bytes tones out s h = record { text = []; put = put_none out; said = refl; kept = refl; paid = omega (arith, due_most s h) }

-- the answer, the tones and the output of a piece
abbrev pub Tells : List ℕ → List ℕ → List ℕ → Listing → Progress → List ℕ → List ℕ → Type 0
Tells bytes tones₀ out₀ s₀ r tones out =
    (r ≡ told (piece_said s₀ tones₀ bytes)) × ((tones ≡ piece_tones s₀ tones₀ bytes) × (out ≡ over (piece_said s₀ tones₀ bytes).text out₀))

-- what a text takes of the part that it was put into
pub said_within : (said : Said) (n : ℕ) (out : List ℕ) {r : Progress} {part : List ℕ} → r ≡ told said → part ≡ over said.text (take n out) → length part ≡ length (take n out) → r.written ≤ n
said_within said n out p o same = put_within_part said.text out n (ap (λ (x : Progress). x.written) p, o) same

pub place_after : (s : Listing) (bytes : List ℕ) (from : ℕ) {w : Within} → w ≡ read_from s bytes from → from ≤ w.at
unfolding read_from
place_after s bytes from e = omega (arith, ap (λ (x : Within). x.at) e)

module _ (bytes tones₀ out₀ : List ℕ) (s₀ : Listing) (tones out : List ℕ) (s : Listing) (written from : ℕ) (h : Hears bytes tones₀ out₀ s₀ tones out s written from) where
  -- nothing more is said
  tells : {next : Listing} {last : List ℕ} → piece_said s tones (drop from bytes) ≡ record { text = []; next = next } → piece_tones s tones (drop from bytes) ≡ last
      → Tells bytes tones₀ out₀ s₀ (record { listing = next; written = written }) last out
  unfolding and_then
  tells {next} e f =
      let whole : piece_said s₀ tones₀ bytes ≡ record { text = h.text; next = next } =
      h.said ∙ ap (and_then h.text) e ∙ (λ i. record { text = append-nil h.text i; next = next }) in (
        ap (λ (n : ℕ). record { listing = next; written = n }) h.put.0 ∙ sym (ap told whole),
        (sym (h.kept ∙ f), h.put.1 ∙ sym (ap (λ (x : Said). over x.text out₀) whole)),
      )

  -- all bytes are read
  pub tells_all : length bytes ≤ from → Tells bytes tones₀ out₀ s₀ (record { listing = s; written = written }) tones out
  unfolding piece_said piece_tones
  tells_all l = let none = drop_of_length-le bytes l in tells (ap (piece_said s tones) none) (ap (piece_tones s tones) none)

  module _ {w : Within} {last : List ℕ} (e : w ≡ read_from s bytes from) (f : last ≡ tones_read s (line_from bytes from) tones) where
    the_place : w.at ≡ from + length (line_from bytes from)
    unfolding read_from
    the_place = ap (λ (x : Within). x.at) e

    -- the bytes end within a line
    pub tells_within : length bytes ≤ w.at → Tells bytes tones₀ out₀ s₀ (record { listing = w.listing; written = written }) last out
    unfolding read_from line_from
    tells_within l =
        let line = rest_said (drop from bytes) s tones (omega (arith, l, the_place, length-drop from bytes)) in
        tells (line.0 ∙ (λ i. record { text = []; next = (sym e i).listing })) (line.1 ∙ sym f)

    the_line : (closed w.listing last ≡ line_said s tones (line_from bytes from)) × (end_tones w.listing.line last ≡ line_tones s tones (line_from bytes from))
    unfolding read_from line_said line_tones
    the_line = (ap₂ closed (ap (λ (x : Within). x.listing) e) f, ap₂ end_tones (ap (λ (x : Within). x.listing.line) e) f)

    the_rest : drop (suc (length (line_from bytes from))) (drop from bytes) ≡ drop (w.at + 1) bytes
    the_rest = let n : from + suc (length (line_from bytes from)) ≡ w.at + 1 = omega (arith, the_place) in drop-drop (suc (length (line_from bytes from))) from bytes ∙ ap (λ (k : ℕ). drop k bytes) n

    -- a line ends
    pub hears_line : (n : ℕ) {r : Progress} {kept part : List ℕ} → n ≡ 1024 → w.at < length bytes
        → r ≡ told (closed w.listing last)
        → kept ≡ end_tones w.listing.line last
        → part ≡ over (closed w.listing last).text (take n (drop written out))
        → length part ≡ length (take n (drop written out))
        → Hears bytes tones₀ out₀ s₀ kept (take written out ++ (part ++ drop n (drop written out))) r.listing (written + r.written) (w.at + 1)
    unfolding read_from line_from
    hears_line n {r} {kept} {part} room l p q o same =
        let told_Line = p ∙ ap told the_line.0 in
        let put : Put (line_said s tones (line_from bytes from)).text (take n (drop written out)) r.written part =
        (ap (λ (x : Progress). x.written) told_Line, o ∙ ap (λ (x : Said). over x.text (take n (drop written out))) the_line.0) in
        let line = line_said_lem (drop from bytes) s tones (omega (arith, l, the_place, length-drop from bytes)) in
        let next = sym (ap (λ (x : Progress). x.listing) told_Line) in
        let after = sym (q ∙ the_line.1) in
        record {
          text = h.text ++ (line_said s tones (line_from bytes from)).text;
          put = put_part h.text out₀ out h.put _ n put same;
          said = h.said ∙ ap (and_then h.text) line.0 ∙ then_then h.text _ _ ∙ ap (and_then _) (λ i. piece_said (next i) (after i) (the_rest i));
          kept = h.kept ∙ line.1 ∙ (λ i. piece_tones (next i) (after i) (the_rest i));
          paid = omega (
            arith,
            h.paid,
            the_place,
            closed_paid w.listing last (omega (arith, ap (λ (x : Progress). x.written) p, said_within _ n (drop written out) p o same, room)),
            ap (λ (x : Progress). x.written) p,
            ap (λ (x : Progress). due x.listing) p,
            ap (λ (x : Within). due x.listing) e,
            due_read s (line_from bytes from),
          );
        }
