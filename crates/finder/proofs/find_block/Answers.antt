use Rattle.finder.proofs.FindCases.{answer_inside}
use Rattle.finder.proofs.find_block.Goals as goal

pub part_found-requires : goal.part_found-requires
part_found-requires c = answer_inside _ _ c.args.run.now _ _ c.find-block.ensures.answer
