-- The download while updates go on: what its calls give, whatever is written between them.
--
-- A walk is a list of images, one for each call: the image that this call reads. What is written between two calls is seen in the later
-- one's image and nowhere else, so that no more need be said of it. The first call asks from the start, each other from the prefix given
-- last; the walk is finished once a call is answered by the end. What is said of a call and of a walk holds of any images. More is said of
-- a table that starts empty, while the calls of demand 3's sequences go on, with single writes of the plan that waits and calls of the
-- download between them: each image is one that demand 3 speaks of, each keeps S1, and no call is refused.
use Rattle.std.specs.Prelude.{ℕ, ◌+◌, ◌*◌, ◌^◌, ◌≤◌, ◌<◌, ◌≡◌, Bool, true, false, cond, ◌&&◌, List, [], ◌∷◌, eqb, length, replicate, take, drop}
use Rattle.std.proofs.Math.Option.{Option, none, some}
use Rattle.route.specs.PrefixOrder.{comes_before}
use Rattle.route.specs.Lists.{any}
use Rattle.route.specs.RightHop.{◌∈◌}
use Rattle.tcam.specs.Slots.{max_slots, Cell, keeps_s1}
use Rattle.tcam.specs.Tables.{addresses, tags}
use Rattle.tcam.specs.Plans.{Write, Planned, refuses, writes, of_prefix, plan_set, plan_remove}
use Rattle.tcam.specs.Applies.{written}
use Rattle.tcam.specs.Book.{count_if}
use Rattle.tcam.specs.Download.{From, start, past, is_to_come, Next, entry, end, refusal, download}
use Rattle.claims.specs.Agreement.{Addresses}
use Rattle.claims.specs.Sequence.{Table, Plan, State, idle, planned, Call, set, remove, apply_plan, apply_refused, Cut, after, reached, empty_table}

abbrev pub Image : Type 0
Image = List Cell

-- a call on an image
abbrev pub asked : ℕ → Image → From → Next
asked W cs from = download W (addresses cs) (tags cs) from

-- what the next call asks from: the prefix that was given, if one was
abbrev pub onward : From → Next → From
onward from (entry a n t) = past a n
onward from end = from
onward from (refusal number place) = from

-- the answers of a walk, whose first call asks from `from`, and from the start
abbrev pub walk_from : ℕ → From → List Image → List Next
walk_from W from [] = []
walk_from W from (cs ∷ images) = asked W cs from ∷ walk_from W (onward from (asked W cs from)) images

abbrev pub walk : ℕ → List Image → List Next
walk W images = walk_from W start images

-- a property of every image of a walk
abbrev pub Each : (Image → Type 0) → List Image → Type 0
Each P images = (cs : Image) → cs ∈ images → P cs

-- whether a prefix stands in an image, and the tag of its first slot there
abbrev pub is_present : ℕ → ℕ → Image → Bool
is_present a n cs = any (of_prefix a n) cs

abbrev pub first_tag : ℕ → ℕ → Image → Option ℕ
first_tag a n [] = none
first_tag a n (c ∷ cs) = cond (of_prefix a n c) (some c.tag) (first_tag a n cs)

-- a/n with the tag t is next: it is still to come, t is the tag of its first slot, and no prefix present that is to come comes before it
pub record IsNext (cs : Image) (from : From) (a n t : ℕ) : Type 0 where
  pub ahead : is_to_come from a n ≡ true
  pub tagged : first_tag a n cs ≡ some t
  pub least : (b m : ℕ) → is_present b m cs ≡ true → is_to_come from b m ≡ true → comes_before b m a n ≡ false

-- what an answer says of its image: that this entry is next; that no prefix present is to come; a refusal, nothing
abbrev pub Says : Image → From → Next → Type 0
Says cs from (entry a n t) = IsNext cs from a n t
Says cs from end = (a n : ℕ) → is_present a n cs ≡ true → is_to_come from a n ≡ false
Says cs from (refusal number place) = Unit {0}

-- the prefixes given rise, from `from` on
abbrev pub Rises : From → List Next → Type 0
Rises from [] = Unit {0}
Rises from (entry a n t ∷ rs) = (is_to_come from a n ≡ true) × Rises (past a n) rs
Rises from (end ∷ rs) = Rises from rs
Rises from (refusal number place ∷ rs) = Rises from rs

-- how often a prefix is given
abbrev pub is_given : ℕ → ℕ → Next → Bool
is_given a n (entry b m t) = eqb b a && eqb m n
is_given a n end = false
is_given a n (refusal number place) = false

abbrev pub times_given : ℕ → ℕ → List Next → ℕ
times_given a n [] = 0
times_given a n (r ∷ rs) = count_if (is_given a n r) + times_given a n rs

-- the list rises; a prefix present in every image of a finished walk is given exactly once; and one present in none is never given
pub record Walked (W : ℕ) (images : List Image) : Type 0 where
  pub rises : Rises start (walk W images)
  pub once : end ∈ walk W images → (a n : ℕ) → Each (λ cs. is_present a n cs ≡ true) images → times_given a n (walk W images) ≡ 1
  pub never : (a n : ℕ) → Each (λ cs. is_present a n cs ≡ false) images → times_given a n (walk W images) ≡ 0

-- the same by all images that there were while the walk went on, of which its calls read some
pub record WalkedAmong (W : ℕ) (images all : List Image) : Type 0 where
  pub once : end ∈ walk W images → (a n : ℕ) → Each (λ cs. is_present a n cs ≡ true) all → times_given a n (walk W images) ≡ 1
  pub never : (a n : ℕ) → Each (λ cs. is_present a n cs ≡ false) all → times_given a n (walk W images) ≡ 0

-- no call is refused
abbrev pub Unrefused : List Next → Type 0
Unrefused rs = (number place : ℕ) → refusal number place ∈ rs → ⊥

-- an image of a right size whose slots keep S1
pub record KeepsS1 (W : ℕ) (cs : Image) : Type 0 where
  pub some : 1 ≤ length cs
  pub few : length cs ≤ max_slots
  pub keeps : (c : Cell) → c ∈ cs → keeps_s1 W c ≡ true

-- what happens to a table while it is read out
pub data Event : Type 0 where
  -- a call of demand 3's sequences
  update : Call → Event
  -- the next write of the plan that waits is made, in a single slot; where none is left, nothing is
  write : Event
  -- the download is called
  read : Event

-- the table now, and the writes that are left of the plan that waits
pub record Now : Type 0 where
  pub image : Image
  pub left : List Write

-- an empty table of M slots
abbrev pub at_first : ℕ → Now
at_first M = record { image = (empty_table M).image; left = [] }

-- an accepted plan waits, in place of one that waited before; a refused call leaves what was
abbrev pub now_planned : Now → Planned → Now
now_planned now (refuses number place) = now
now_planned now (writes ws) = record { image = now.image; left = ws }

-- a call finds the table as it is: a half-written one, where a plan was begun. An apply makes the writes that are left; an apply of the
-- whole plan from its start would leave the same (`Reapplied`)
abbrev pub now_called : ℕ → Now → Call → Now
now_called W now (set a n h row) = now_planned now (plan_set W (addresses now.image) (tags now.image) a n h (length row))
now_called W now (remove a n row) = now_planned now (plan_remove W (addresses now.image) (tags now.image) a n (length row))
now_called W now apply_plan = record { image = written now.image now.left; left = [] }
now_called W now (apply_refused row k) = now

abbrev pub now_written : Now → Now
now_written now = record { image = written now.image (take 1 now.left); left = drop 1 now.left }

-- the images that the download's calls read
abbrev pub images_read : ℕ → List Event → Now → List Image
images_read W [] now = []
images_read W (update c ∷ es) now = images_read W es (now_called W now c)
images_read W (write ∷ es) now = images_read W es (now_written now)
images_read W (read ∷ es) now = now.image ∷ images_read W es now

-- the image after so many single writes of the plan that waits, and how many it has
abbrev pub cut_of : ℕ → State → ℕ → Image
cut_of W (idle t) k = t.image
cut_of W (planned p t t') k = after W t.image p.row k

abbrev pub writes_of : State → ℕ
writes_of (idle t) = 0
writes_of (planned p t t') = p.writes

-- an image that demand 3 speaks of: there are calls of a sequence from the empty table after which it is the table, or a cut of the plan
-- that then waits
pub record InSequence (W M : ℕ) (cs : Image) : Type 0 where
  pub calls : List Call
  pub made : ℕ
  pub within : made ≤ writes_of (reached W M (idle (empty_table M)) calls)
  pub is : cs ≡ cut_of W (reached W M (idle (empty_table M)) calls) made

-- a walk with updates between its calls: each image is one of demand 3's, each keeps S1, no call is refused, and what was said of any walk
pub record WalkedMeanwhile (W M : ℕ) (images : List Image) : Type 0 where
  pub in_sequence : Each (InSequence W M) images
  pub keep : Each (KeepsS1 W) images
  pub answered : Unrefused (walk W images)
  pub walked : Walked W images

pub record DownloadClaim (W : ℕ) : Type 0 where
  -- each call gives the least prefix ahead with its first slot's tag, or the end where none is ahead
  pub right : (cs : Image) (from : From) → Says cs from (asked W cs from)
  -- of any walk: it rises, and gives what is present in every image once and what is present in none never
  pub walks : (images : List Image) → Walked W images
  -- and so by all images that there were, those between two calls that no call read included
  pub unread : (images all : List Image) → Each (λ cs. cs ∈ all) images → WalkedAmong W images all
  -- any images that keep S1 will do, and each cut that demand 3 speaks of does
  pub keeping : (images : List Image) → Each (KeepsS1 W) images → Unrefused (walk W images)
  pub cuts : (p : Plan) (before next : Table) (k : ℕ) → Cut W p before next k → KeepsS1 W (after W before.image p.row k)
  -- a table that stays as it is takes at most a call more than it has slots
  pub still : (cs : Image) → KeepsS1 W cs → end ∈ walk W (replicate (length cs + 1) cs)
  -- whatever is written, a walk ends, once it has more calls than there are addresses of W bits with a length of 0 to W
  pub ends :
      (images : List Image) → Each (KeepsS1 W) images → Each (λ cs. Addresses W (addresses cs)) images →
      2 ^ W * (W + 1) < length images → end ∈ walk W images
  -- while the updates of demand 3 go on, from an empty table
  pub meanwhile :
      (M : ℕ) → 1 ≤ M → M ≤ max_slots → (es : List Event) →
      WalkedMeanwhile W M (images_read W es (at_first M))
