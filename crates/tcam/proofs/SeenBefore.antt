-- What the image test keeps of the slots before a slot, for S1 to S4, and what it tells of that slot.
use Rattle.std.proofs.Common.{◌≡◌, ℕ, Bool, true, false, not, ◌&&◌, ◌||◌, List, ◌∷◌, sym, refl, ap}
use Rattle.tcam.specs.Slots.{Cell, is_free, is_upper, keeps_s1, misplaced, repeats, breaks}
use Rattle.tcam.specs.Loops.{SeenBefore, SeenWith, SeenPast, misplaced_by}
use Rattle.tcam.specs.declared.image.Seen.{Seen}

-- a free slot breaks a rule where an entry below the pool stands before it
module _ (W : ℕ) (c : Cell) (seen : Seen) where
  pub misplaced-free : is_free c ≡ true → seen.lower ≡ misplaced_by W c seen
  misplaced-free e = rw e

module _ {W : ℕ} {bs : List Cell} {s next : Seen} {c : Cell} (b : SeenBefore W bs s) where
  pub seen-with : {i : ℕ} → is_free c ≡ false → SeenWith W c i s next → SeenBefore W (c ∷ bs) next
  seen-with u w = record {
    nearest = λ d k v. rw (u, w.nearest);
    free = rw (u, b.free) (sym w.free);
    lower = rw b.lower (sym w.lower);
  }

  pub seen-past : {to : ℕ} → is_free c ≡ true → SeenPast to s next → SeenBefore W (c ∷ bs) next
  seen-past f w = record {
    nearest = λ d k v. rw (f, w.nearest) (b.nearest d k v);
    free = rw f (sym w.free);
    lower = rw (f, b.lower) (sym w.lower);
  }

-- what was seen behind free slots stays behind more of them
pub past-again : {to : ℕ} {s next : Seen} → SeenPast to s next → SeenPast to next next
past-again w = record { nearest = refl; free = w.free; lower = refl; run = w.run }

module _ {W : ℕ} {bs : List Cell} {s : Seen} (b : SeenBefore W bs s) (c : Cell) where
  S2-same : (k f longer over : Bool) → (k ≡ true → f ≡ false → longer ≡ over) → (not k || (not f && longer)) ≡ (not k || (not f && over))
  S2-same false f x y h = refl
  S2-same true true x y h = refl
  S2-same true false x y h = h refl refl

  -- what was seen tells whether the slot breaks one of S1 to S4
  pub misplaced-is : misplaced_by W c s ≡ misplaced W c bs
  misplaced-is =
      rw (b.free, b.lower)
      (ap (λ (x : Bool). x || (is_upper W c && s.free) || (is_free c && s.lower)) (sym (S2-same (keeps_s1 W c) (is_free c) _ _ (b.nearest c))))

module _ (c : Cell) (bs : List Cell) where
  -- a free slot does not break S5, so that it breaks a rule only where it breaks one of S1 to S4
  pub repeats-free : is_free c ≡ true → false ≡ repeats c bs
  repeats-free f = rw f

  pub breaks-free : (W : ℕ) → is_free c ≡ true → misplaced W c bs ≡ false → breaks W c bs ≡ false
  breaks-free W f e = rw (e, f)
