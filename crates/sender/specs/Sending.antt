-- What the calls promise. Of a state that a run of calls from a new sender has left: answer, output and next state are the model's. Of any other
-- state the rules leave them open, but for what is said here of every state.
use Rattle.std.specs.Prelude.{◌≡◌, Bool, true, false, List, ℕ, ◌<◌, length, Ok, Err, Option, Some, None}
use Rattle.lists.specs.Lists.{over}
use Rattle.refusal.specs.declared.Refusal.{Refusal}
use Rattle.refusal.specs.Refused.{Answered, refused_at}
use Rattle.chain.specs.Chain.{tones_of}
use Rattle.block_encoder.specs.Encoding.{IsText}
use Rattle.sender.specs.Queues.{Block, new, waiting, hand_answer, send_answer, tones_by}
use Rattle.sender.specs.Runs.{Call, hand, send, after, run}
use Rattle.sender.specs.State.{counts_in, Holds}
use Rattle.refusal.specs.declared.Reason.{Reason}
use Rattle.sender.specs.declared.Served.{Served}

-- ---- a depot hands in a block: state, answer, next state

-- of a state that a run of calls has left
pub record HandedIn (state : List ℕ) (depot : ℕ) (b : Block) (answer : Answered Unit) (next : List ℕ) : Type 0 where
  pub answered : (calls : List Call) → Holds (run new calls) state → answer ≡ hand_answer (waiting (run new calls)) depot b
  pub left : (calls : List Call) → Holds (run new calls) state → Holds (after (run new calls) (hand depot b)) next

-- of every state: the answer by the counts that it holds, 9 if it has another size, and that a refused call gives it back
pub record HandedToAny (state : List ℕ) (depot : ℕ) (b : Block) (answer : Answered Unit) (next : List ℕ) : Type 0 where
  pub answered : length state ≡ 1532 → answer ≡ hand_answer (counts_in state) depot b
  pub other_size : (length state ≡ 1532 → ⊥) → answer ≡ Err (refused_at Reason.Room 0)
  pub kept : (r : Refusal) → answer ≡ Err r → next ≡ state

-- ---- a block is sent: state, output, answer, next output, next state

-- of a state that a run of calls has left
pub record SentFrom (state tones : List ℕ) (answer : Answered (Option Served)) (tones' next : List ℕ) : Type 0 where
  pub answered : (calls : List Call) → Holds (run new calls) state → answer ≡ send_answer (run new calls) (length tones)
  pub output : (calls : List Call) → Holds (run new calls) state → tones' ≡ tones_by answer (run new calls) tones
  pub left : (calls : List Call) → Holds (run new calls) state → Holds (after (run new calls) (send tones)) next

-- a block was sent
unfoldable pub is_block : Answered (Option Served) → Bool
is_block (Ok (Some s)) = true
is_block (Ok None) = false
is_block (Err r) = false

-- neither the output nor the state is changed
pub record Unchanged (state tones tones' next : List ℕ) : Type 0 where
  pub output : tones' ≡ tones
  pub state_kept : next ≡ state

-- what is written are the tones of some text of the mode
pub record WritesText (mode : ℕ) (tones tones' : List ℕ) : Type 0 where
  pub codes : List ℕ
  pub text : IsText mode codes
  pub output : tones' ≡ over (tones_of mode codes) tones

-- of every state: 9 comes first and is the only refusal; a refused call, and one with none waiting, changes nothing; and what is answered as
-- sent was written
pub record SentFromAny (state tones : List ℕ) (answer : Answered (Option Served)) (tones' next : List ℕ) : Type 0 where
  pub short : length tones < 64 → answer ≡ Err (refused_at Reason.Room 0)
  pub only : (r : Refusal) → answer ≡ Err r → r ≡ refused_at Reason.Room 0
  pub kept : is_block answer ≡ false → Unchanged state tones tones' next
  pub written : (s : Served) → answer ≡ Ok (Some s) → WritesText s.mode tones tones'
