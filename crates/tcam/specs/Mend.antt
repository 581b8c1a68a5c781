-- Mending a half-written table: the writes that take out the later copy of a prefix that stands twice.
--
-- An update that was cut short leaves the entry that was moved last in two slots, with the same tag, and every other rule kept. Such
-- an image is mended by the removal rule, begun at the later of the two slots. Any other image that is not well-formed is refused: S1
-- to S4 are tested over the whole image first, then the repeats.
use Rattle.std.specs.Prelude.{ℕ, ◌+◌, Bool, false, cond, not, ◌&&◌, ◌||◌, List, [], ◌∷◌, ◌==◌, slice_index_or}
use Rattle.std.proofs.Math.Option.{Option, none, some}
use Rattle.route.specs.Refusals.{Verdict, fine, fault_if, ◌then◌, image_refusal}
use Rattle.route.specs.Lists.{any}
use Rattle.tcam.specs.Slots.{Cell, cells, free, is_free, length_in, same_prefix_in, misplaced, repeats, first_fault, size_fault}
use Rattle.tcam.specs.Plans.{Write, remove_present, Planned, with_room}

-- the first slot that breaks one of S1 to S4; `before` are the slots before it, nearest first
abbrev pub order_fault : ℕ → ℕ → List Cell → List Cell → Verdict
order_fault W i before cs = first_fault (misplaced W) i before cs

-- the used slot b has the prefix of c, with another tag
abbrev pub other_tag_in : Cell → Cell → Bool
other_tag_in c b = same_prefix_in c b && not (b.tag == c.tag)

-- whether a slot repeats an earlier prefix with another tag
abbrev pub contradicts : Cell → List Cell → Bool
contradicts c before = not (is_free c) && any (other_tag_in c) before

-- the first slot that does so, or is the second to repeat any; `one` says whether a slot before repeats one
abbrev pub repeat_fault : ℕ → Bool → List Cell → List Cell → Verdict
repeat_fault i one before [] = fine
repeat_fault i one before (c ∷ cs) =
    fault_if (contradicts c before || (one && repeats c before)) image_refusal i
    then repeat_fault (i + 1) (one || repeats c before) (c ∷ before) cs

-- what a mend tests of a table: refusal 8, then 7
abbrev pub mend_fault : ℕ → List ℕ → List ℕ → Verdict
mend_fault W ad ts = size_fault ad ts then order_fault W 0 [] (cells ad ts) then repeat_fault 0 false [] (cells ad ts)

-- the slot of the later copy: the first slot that repeats an earlier prefix
abbrev pub repeat_slot : ℕ → List Cell → List Cell → Option ℕ
repeat_slot i before [] = none
repeat_slot i before (c ∷ cs) = cond (repeats c before) (some i) (repeat_slot (i + 1) (c ∷ before) cs)

-- its removal; a well-formed image needs no writes
abbrev pub removal_at : ℕ → List Cell → Option ℕ → List Write
removal_at W cs none = []
removal_at W cs (some s) = remove_present W cs (length_in (slice_index_or cs s free)) s

abbrev pub mend_writes : ℕ → List Cell → List Write
mend_writes W cs = removal_at W cs (repeat_slot 0 [] cs)

-- plan a mend: refusals 8, 7, 9 in this order
abbrev pub plan_mend : ℕ → List ℕ → List ℕ → ℕ → Planned
plan_mend W ad ts room = with_room room (mend_fault W ad ts) (mend_writes W (cells ad ts))
