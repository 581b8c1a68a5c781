-- The ranges that two rows say: each by its place, as many as there are starts, parts of both rows, and back.
use Rattle.std.proofs.Common.{◌≡◌, ℕ, zero, suc, ◌+◌, ◌<◌, List, [], ◌∷◌, length, get_or, take, drop, refl, ap, add-one, arith, drop-cons}
use Rattle.ranges.specs.Ranges.{Range, range, ranges, starts_of, hops_of}
use Rattle.ranges.specs.Loops.{range_at}

-- the rows of starts and hops say the ranges
pub rows_say : (t : List Range) → ranges (starts_of t) (hops_of t) ≡ t
rows_say [] = refl
rows_say (r ∷ rs) = ap (λ l. r ∷ l) (rows_say rs)

-- the ranges from range i on begin with range i
pub ranges-at : (ss hs : List ℕ) (i : ℕ) → length ss ≡ length hs → i < length ss →
    ranges (drop i ss) (drop i hs) ≡ range_at ss hs i ∷ ranges (drop (i + 1) ss) (drop (i + 1) hs)
ranges-at ss hs i e l = let m : i < length hs = omega arith in rw (add-one, drop-cons ss i 0, drop-cons hs i 0)

-- as many ranges as starts, in the same places
pub ranges-length : (ss hs : List ℕ) → length ss ≡ length hs → length (ranges ss hs) ≡ length ss
ranges-length [] hs e = refl
ranges-length (s ∷ ss) [] e = absurd (omega arith)
ranges-length (s ∷ ss) (h ∷ hs) e = ap suc (ranges-length ss hs (omega arith))

pub ranges-get : (ss hs : List ℕ) (i : ℕ) → length ss ≡ length hs → get_or (ranges ss hs) i (range 0 0) ≡ range_at ss hs i
ranges-get [] [] i e = refl
ranges-get [] (h ∷ hs) i e = absurd (omega arith)
ranges-get (s ∷ ss) [] i e = absurd (omega arith)
ranges-get (s ∷ ss) (h ∷ hs) zero e = refl
ranges-get (s ∷ ss) (h ∷ hs) (suc i) e = ranges-get ss hs i (omega arith)

-- their starts, their hops, and a part of both rows
pub starts_say : (ss hs : List ℕ) → length ss ≡ length hs → starts_of (ranges ss hs) ≡ ss
starts_say [] hs e = refl
starts_say (s ∷ ss) [] e = absurd (omega arith)
starts_say (s ∷ ss) (h ∷ hs) e = ap (λ l. s ∷ l) (starts_say ss hs (omega arith))

pub hops_say : (ss hs : List ℕ) → length ss ≡ length hs → hops_of (ranges ss hs) ≡ hs
hops_say [] [] e = refl
hops_say [] (h ∷ hs) e = absurd (omega arith)
hops_say (s ∷ ss) [] e = absurd (omega arith)
hops_say (s ∷ ss) (h ∷ hs) e = ap (λ l. h ∷ l) (hops_say ss hs (omega arith))

pub take_says : (n : ℕ) (ss hs : List ℕ) → ranges (take n ss) (take n hs) ≡ take n (ranges ss hs)
take_says zero ss hs = refl
take_says (suc n) [] hs = refl
take_says (suc n) (s ∷ ss) [] = refl
take_says (suc n) (s ∷ ss) (h ∷ hs) = ap (λ l. range s h ∷ l) (take_says n ss hs)

no_hops : (ss : List ℕ) → ranges ss [] ≡ []
no_hops [] = refl
no_hops (s ∷ ss) = refl

pub drop_says : (n : ℕ) (ss hs : List ℕ) → ranges (drop n ss) (drop n hs) ≡ drop n (ranges ss hs)
drop_says zero ss hs = refl
drop_says (suc n) [] hs = refl
drop_says (suc n) (s ∷ ss) [] = no_hops (drop n ss)
drop_says (suc n) (s ∷ ss) (h ∷ hs) = drop_says n ss hs
