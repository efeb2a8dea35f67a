-- A block sent within a run is found at its place or before, and at its place with its text.
use mathlib.Core.Path.{◌≡◌, sym, ◌∙◌}
use mathlib.Core.List.{List}
use mathlib.Core.Logic.{◌⊎◌, ⊎_elim}
use Prim.Native.Nat.{ℕ, ◌+◌, ◌*◌, ◌<◌, ◌≤◌}
use lib.Dec.{lit≤}
use lib.ListN.{length, replicate}
use Rattle.lists.specs.Lists.{over}
use Rattle.chain.specs.Chain.{tones_of}
use Rattle.block_decoder.specs.Decoding.{decode_block, decoded_into}
use Rattle.block_decoder.proofs.Clarity.{text_refused}
use Rattle.search.specs.Starts.{stretch_at}
use Rattle.finder.specs.Finding.{find_block, found_into}
use Rattle.finder.proofs.Starts.{stretch_tones}
use Rattle.demands.specs.Demand.{missing_in, replaced_in, Covered, Gives, RefusesAsUnclear}
use Rattle.demands.proofs.Demands.{demand3}
use Rattle.finder_laws.specs.Laws.{RunCovered, FoundBy, SentBlock}
use Rattle.finder_laws.proofs.FirstBlocks.{found_by, first_block}
use Rattle.std.proofs.Common.{Ok}

module _ (b m : ℕ) (text run codes : List ℕ) (s : ℕ) (c : RunCovered b m text run codes) (inside : s + 64 ≤ length run) where
  abbrev heard : List ℕ
  heard = stretch_at run s

  -- u and r of document 01
  abbrev u : ℕ
  u = missing_in heard

  abbrev r : ℕ
  r = replaced_in (tones_of b text) heard

  -- the demand, of the stretch there
  covered : Covered b m text heard (replicate 64 0) codes codes
  covered = record {
    settings = c.settings;
    codes = c.sent;
    damaged = stretch_tones b m run c.tones s inside;
    room_sent = lit≤ tt;
    room_one = c.room;
    room_two = c.room;
  }

  abbrev GivesThere : Type 0
  GivesThere = Gives b text (decode_block b m heard (length codes)) codes (decoded_into b m heard codes)

  same_text : m + 2 * u + 4 * r ≤ 64 → GivesThere
  same_text h = (demand3.met b m text heard (replicate 64 0) codes codes covered).same h

  no_other_text : 2 * u + 4 * r < 64 + m → GivesThere ⊎ RefusesAsUnclear b m (decode_block b m heard (length codes)) codes (decoded_into b m heard codes)
  no_other_text h = (demand3.met b m text heard (replicate 64 0) codes codes covered).no_other h

  found : GivesThere → FoundBy b m run codes s
  found g = found_by b m run codes (record { settings = c.settings; count = c.count; fits = c.room }) c.tones s inside g.accepted

  own_text : 2 * u + 4 * r < 64 + m → (find_block b m run (length codes)).answer ≡ Ok s → found_into b m run codes ≡ over text codes
  own_text h e =
      let first = first_block.found b m run codes s e in
      ⊎_elim
      (λ g. sym first.output ∙ g.written)
      (λ x. absurd (text_refused (sym first.accepted ∙ x.refused)))
      (no_other_text h)

pub sent_block : SentBlock
sent_block = record {
  finds = λ b m text run codes s c inside. record {
    found = λ h. found b m text run codes s c inside (same_text b m text run codes s c inside h);
    own_text = own_text b m text run codes s c inside;
  };
}
