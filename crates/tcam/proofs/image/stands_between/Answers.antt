-- The block that was found says whether one has it.
use Rattle.std.proofs.Common.{rules, ℕ, slice_index, ◌==◌, ◌∙◌}
use Rattle.tcam.proofs.Searched.{block-found}
use Rattle.tcam.proofs.image.stands_between.Goals as goal

pub returns : goal.returns
returns c =
    c.is_some.ensures
    ∙ block-found (λ (j : ℕ). slice_index c.args.addresses.now j == c.args.address) c.args.from c.args.to _ (c.first_block.ensures.found _ (λ j b l m e. search rules))
