-- Lists: a relation of each member to each behind it.
use mathlib.Core.List.{List, [], ◌∷◌, ◌++◌}
use Rattle.claims.proofs.Times.{All, all_append, all-front, all_back, all-less}

module _ {A : Type 0} where
  abbrev pub Pairs : (A → A → Type 0) → List A → Type 0
  Pairs R [] = Unit {0}
  Pairs R (x ∷ xs) = All (R x) xs × Pairs R xs

module _ {A : Type 0} (R : A → A → Type 0) where
  pub pairs-append : (xs ys : List A) → All (λ x. All (R x) ys) xs → Pairs R xs → Pairs R ys → Pairs R (xs ++ ys)
  pairs-append [] ys c r s = s
  pairs-append (x ∷ xs) ys c r s = (all_append (R x) xs ys r.0 c.0, pairs-append xs ys c.1 r.1 s)

  -- a member with those before it and those behind it
  pub pairs-at : (xs : List A) (y : A) (ys : List A) → Pairs R (xs ++ (y ∷ ys)) → All (λ x. R x y) xs × All (R y) ys
  pairs-at [] y ys p = (tt, p.0)
  pairs-at (x ∷ xs) y ys p = let r = pairs-at xs y ys p.1 in (((all_back (R x) xs (y ∷ ys) p.0).0, r.0), r.1)

  -- one less, and one more
  pub pairs-less : (xs : List A) (y : A) (ys : List A) → Pairs R (xs ++ (y ∷ ys)) → Pairs R (xs ++ ys)
  pairs-less [] y ys p = p.1
  pairs-less (x ∷ xs) y ys p = (all-less (R x) xs y ys p.0, pairs-less xs y ys p.1)

  pub pairs-more : (xs : List A) (y : A) (ys : List A) → All (λ x. R x y) xs → All (R y) ys → Pairs R (xs ++ ys) → Pairs R (xs ++ (y ∷ ys))
  pairs-more [] y ys a b p = (b, p)
  pairs-more (x ∷ xs) y ys a b p =
      (all_append (R x) xs (y ∷ ys) (all-front (R x) xs ys p.0) (a.0, all_back (R x) xs ys p.0), pairs-more xs y ys a.1 b p.1)
