use mathlib.Core.Path.{◌≡◌, ◌∙◌, ap}
use Prim.Native.Nat.{◌^◌, ◌<◌}
use native.Mathlib.Decide.{ℕ_discrete}
use native.Mathlib.Omega.{arith}
use lib.ListN.{length}
use Rattle.told.specs.Told.{handed_told}
use Rattle.told.proofs.Kept.{refused_by, refused_kept}
use Rattle.olivia.proofs.Carried.{handed_small}
use Rattle.olivia.proofs.olivia_hand_in.Goals as goal
use Rattle.olivia.proofs.olivia_hand_in.Goals.{After-hand_in}

-- the place of a refusal, of a state or of what is none by its size
place_small : (c : After-hand_in) → Dec (length c.args.state.now ≡ 1532) → refused_by c.hand_in.result < 2 ^ 32
place_small c (yes size) = rw (c.hand_in.ensures.any.answered size) (handed_small _ _ _)
place_small c (no other) = rw (c.hand_in.ensures.any.other_size other) (omega arith)

pub returns : goal.returns
returns c =
    let called = c.hand_in in
    record {
      answer = called.result;
      told = c.from.ensures ∙ ap handed_told (refused_kept called.result (place_small (goal.at.returns c).After-hand_in (ℕ_discrete (length c.args.state.now) 1532)));
      run = called.ensures.run;
      any = called.ensures.any;
    }
