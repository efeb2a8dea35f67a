use mathlib.Core.Path.{◌∙◌, ap}
use native.Mathlib.Omega.{arith}
use Rattle.told.specs.Told.{sent_told}
use Rattle.told.proofs.Kept.{refused_kept, refused_small}
use Rattle.olivia.proofs.olivia_send.Goals as goal

pub returns : goal.returns
returns c =
    let called = c.send in
    record {
      answer = called.result;
      told = c.from.ensures ∙ ap sent_told (refused_kept called.result (refused_small called.result (λ r e. rw (called.ensures.any.only r e) (omega arith))));
      run = called.ensures.run;
      any = called.ensures.any;
    }
