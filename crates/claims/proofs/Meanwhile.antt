-- While updates go on, the table is at any time one that demand 3 speaks of: the table after some calls of a sequence, or a cut of the plan
-- that then waits.
--
-- By induction over the events. A single write leads from one cut to the next. A set or a removal that finds no plan begun, or one made to
-- its end, is a call of the sequence; one that finds a plan half made is refused, for such a table breaks a rule. So demand 3 says of each
-- image that lookups accept it, and it keeps S1.
use Prim.Native.Nat.{ℕ, suc, ◌≤◌, ◌<◌, zero-le}
use mathlib.Core.Path.{◌≡◌, refl, sym, ap, subst, ◌∙◌}
use mathlib.Core.Logic.{◌≢◌, ◌⊎◌, inl, inr}
use mathlib.Core.List.Memᴰ
use mathlib.Core.List.{List, [], ◌∷◌, ◌++◌}
use native.Mathlib.Nat.{le_refl}
use native.Mathlib.Omega.{arith}
use lib.Dec.{leb, ltb}
use lib.ListN.{length, length-take, length-replicate, take, drop, take-append-drop, drop_of_length-le}
use lib.Seq.{take-take, take-nil, take-suc, drop-cons, take-length, take-append-le}
use borrow.Author.Tests.{leb-true, leb-false, ltb-true, ltb-false}
use Rattle.route.specs.RightHop.{◌∈◌}
use Rattle.route.specs.Refusals.{Verdict, fine, fault, ◌then◌}
use Rattle.tcam.specs.Slots.{Cell, free, max_slots, size_fault, image_fault, table_fault}
use Rattle.tcam.specs.Tables.{addresses, tags}
use Rattle.tcam.specs.Plans
use Rattle.tcam.specs.Plans.{Write, Planned, refuses, writes, if_fine, plan_set, plan_remove}
use Rattle.tcam.specs.Applies.{written, writes_in, apply_fault}
use Rattle.route.proofs.Tests.{by_test, in_turn, answered}
use Rattle.tcam.proofs.Writes.{read_back}
use Rattle.claims.specs.Sequence.{Call, set, remove, apply_plan, apply_refused, Table, Plan, State, idle, planned, Request, AcceptedPlan, after}
use Rattle.claims.specs.Sequence.{refused_table, Held, table_in, with_table, after_plan, after_apply, CallClaim, state_after, Claim, reached, empty_table}
use Rattle.claims.specs.Sequence.{set_request, remove_request}
use Rattle.claims.specs.Download.{Image, KeepsS1, Event, update, write, read, Now, at_first, now_planned, now_called, now_written, images_read, cut_of, writes_of, InSequence}
use Rattle.claims.proofs.Apply.{Keeps, cells-back, stored-rows}
use Rattle.claims.proofs.Times.{all-copies}
use Rattle.claims.proofs.Members.{member}
use Rattle.claims.proofs.NextEntry.{looked-up-keeps}
use Rattle.claims.proofs.Demand3.{demand3}

-- writes made in turn
written-append : (cs : List Cell) (vs ws : List Write) → written cs (vs ++ ws) ≡ written (written cs vs) ws
written-append cs [] ws = refl
written-append cs (v ∷ vs) ws = written-append _ vs ws

-- the writes of the plan that waits
abbrev pub plan_writes : State → List Write
plan_writes (idle t) = []
plan_writes (planned p t t') = take p.writes (writes_in p.row)

-- what is known of an accepted plan: each of its cuts can be made, and keeps S1; between its first write and its last a rule is broken
pub record Waits (W : ℕ) (cs : Image) (p : Plan) (whole : Image) : Type 0 where
  pub made : (k : ℕ) → k ≤ p.writes → apply_fault W (addresses cs) (tags cs) p.row k ≡ fine
  pub keeps : (k : ℕ) → k ≤ p.writes → KeepsS1 W (after W cs p.row k)
  pub unfinished : (k : ℕ) → 1 ≤ k → k < p.writes → image_fault W 0 [] (after W cs p.row k) ≢ fine
  pub ends : after W cs p.row p.writes ≡ whole

accepted-waits : {W most : ℕ} {p : Plan} {t t' : Table} → AcceptedPlan W most p t t' → after W t.image p.row p.writes ≡ t'.image
    → Waits W t.image p t'.image
accepted-waits {W} {most} {p} {t} a e = record {
  made = λ k n. answered (apply_fault W (addresses t.image) (tags t.image) p.row k) _ (sym (a.cuts k n).answers);
  keeps = λ k n. looked-up-keeps W _ 0 ((a.cuts k n).looks_up 0);
  unfinished = a.unfinished;
  ends = e;
}

-- of a state: the table keeps S1, or a plan waits
abbrev pub Standing : ℕ → State → Type 0
Standing W (idle t) = KeepsS1 W t.image
Standing W (planned p t t') = Waits W t.image p t'.image

module _ (W : ℕ) where
  -- a cut is what the first writes leave
  cut-is : (s : State) → Standing W s → (k : ℕ) → k ≤ writes_of s → cut_of W s k ≡ written (table_in s).image (take k (plan_writes s))
  cut-is (idle t) h k n = ap (written t.image) (sym (take-nil k))
  cut-is (planned p t t') h k n =
      rw (h.made k n) (stored-rows t.image (take k (writes_in p.row)) ∙ ap (written t.image) (sym (take-take k p.writes (writes_in p.row) n)))

  cut_keeps : (s : State) → Standing W s → (k : ℕ) → k ≤ writes_of s → KeepsS1 W (cut_of W s k)
  cut_keeps (idle t) h k n = h
  cut_keeps (planned p t t') h k n = h.keeps k n

  -- a set or a removal leads to such a state, and so does an apply
  plan-standing : (M : ℕ) (s : State) (row : List ℕ) (r : Request) (p : Planned) → Standing W s → Held W M (table_in s) row r p
      → Standing W (after_plan W s row r p)
  plan-standing M (idle t) row r (refuses x y) h k = h
  plan-standing M (planned p t t') row r (refuses x y) h k = h
  plan-standing M s row r (writes ws) h k = accepted-waits k refl

  applied-standing : (s : State) → Standing W s → Standing W (after_apply s)
  applied-standing (idle t) h = h
  applied-standing (planned p t t') h = subst (KeepsS1 W) h.ends (h.keeps p.writes (le_refl p.writes))

  -- the whole of a plan: all its writes, after which none is left; the table is then the one that its apply leads to
  whole-plan : (s : State) → take (writes_of s) (plan_writes s) ≡ plan_writes s
  whole-plan (idle t) = refl
  whole-plan (planned p t t') = take-take p.writes p.writes (writes_in p.row) (le_refl p.writes)

  few-writes : (s : State) → length (plan_writes s) ≤ writes_of s
  few-writes (idle t) = le_refl 0
  few-writes (planned p t t') = omega (arith, length-take p.writes (writes_in p.row))

  none_left : (s : State) → drop (writes_of s) (plan_writes s) ≡ []
  none_left s = drop_of_length-le (plan_writes s) (few-writes s)

  applied-image : (s : State) → Standing W s → written (table_in s).image (take (writes_of s) (plan_writes s)) ≡ (table_in (after_apply s)).image
  applied-image (idle t) h = refl
  applied-image (planned p t t') h = sym (cut-is (planned p t t') h p.writes (le_refl p.writes)) ∙ h.ends

  applied-none : (s : State) → plan_writes (after_apply s) ≡ []
  applied-none (idle t) = refl
  applied-none (planned p t t') = refl

-- the same state with another table
with-table : (s : State) (t : Table) → table_in (with_table s t) ≡ t
with-table (idle u) t = refl
with-table (planned p u u') t = refl

with-writes : (s : State) (t : Table) → plan_writes (with_table s t) ≡ plan_writes s
with-writes (idle u) t = refl
with-writes (planned p u u') t = refl

-- demand 3's claim at the state that some calls lead to
module _ (W M : ℕ) where
  claim-reached : (cs more : List Call) (s : State) → Claim W M (cs ++ more) s → Claim W M more (reached W M s cs)
  claim-reached [] more s k = k
  claim-reached (c ∷ cs) more s k = claim-reached cs more (state_after W M s c) k.1

  reached-more : (cs : List Call) (c : Call) (s : State) → reached W M s (cs ++ (c ∷ [])) ≡ state_after W M (reached W M s cs) c
  reached-more [] c s = refl
  reached-more (d ∷ cs) c s = reached-more cs c (state_after W M s d)

-- where the table stands now: the calls that led there, the state that they lead to, and how many writes of its plan were made
pub record Stands (W M : ℕ) (now : Now) : Type 0 where
  pub calls : List Call
  pub state : State
  pub reaches : reached W M (idle (empty_table M)) calls ≡ state
  pub standing : Standing W state
  pub made : ℕ
  pub within : made ≤ writes_of state
  pub image : now.image ≡ written (table_in state).image (take made (plan_writes state))
  pub left : now.left ≡ drop made (plan_writes state)

module _ (W M : ℕ) (i : 1 ≤ M) (j : M ≤ max_slots) where
  -- demand 3 of one call more
  claimed : {now : Now} (s : Stands W M now) (c : Call) → CallClaim W M s.state c
  claimed s c = (subst (Claim W M (c ∷ [])) s.reaches (claim-reached W M s.calls (c ∷ []) (idle (empty_table M)) (demand3 W M i j (s.calls ++ (c ∷ []))))).0

  one_more : {now : Now} (s : Stands W M now) (c : Call) → reached W M (idle (empty_table M)) (s.calls ++ (c ∷ [])) ≡ state_after W M s.state c
  one_more s c = reached-more W M s.calls c (idle (empty_table M)) ∙ ap (λ t. state_after W M t c) s.reaches

  -- the image is a cut
  stands-cut : {now : Now} (s : Stands W M now) → now.image ≡ cut_of W s.state s.made
  stands-cut s = s.image ∙ sym (cut-is W s.state s.standing s.made s.within)

  in-sequence : {now : Now} → Stands W M now → InSequence W M now.image
  in-sequence s = record { calls = s.calls; made = s.made; within = rw s.reaches s.within; is = rw s.reaches (stands-cut s) }

  keeps-now : {now : Now} → Stands W M now → KeepsS1 W now.image
  keeps-now s = rw (stands-cut s) (cut_keeps W s.state s.standing s.made s.within)

  -- the same state with so many writes of its plan made
  with-made : {now after : Now} (s : Stands W M now) (k : ℕ) → k ≤ writes_of s.state
      → after.image ≡ written (table_in s.state).image (take k (plan_writes s.state)) → after.left ≡ drop k (plan_writes s.state)
      → Stands W M after
  with-made s k l e f = record {
    calls = s.calls;
    state = s.state;
    reaches = s.reaches;
    standing = s.standing;
    made = k;
    within = l;
    image = e;
    left = f;
  }

  -- a single write leads to the next cut; where none is left it leads nowhere
  stands-write : {now : Now} → Stands W M now → Stands W M (now_written now)
  stands-write {now} s =
      let t = s.state in
      let ws = plan_writes t in
      let k = s.made in
      by_test (ltb k (length ws))
      (λ e. let l = ltb-true k (length ws) e in
      let d = drop-cons ws k (Plans.write 0 free) l in
      with-made s (suc k) (omega (arith, few-writes W t))
      (rw (s.left, d, take-suc ws k (Plans.write 0 free) l, s.image) (sym (written-append (table_in t).image (take k ws) _)))
      (rw (s.left, d)))
      (λ e. let d = drop_of_length-le ws (ltb-false k (length ws) e) in
      with-made s k s.within (rw (s.left, d) s.image) (rw (s.left, d)))

  -- an apply makes the writes that are left
  stands-applied : {now : Now} → Stands W M now → Stands W M (now_called W now apply_plan)
  stands-applied {now} s =
      let t = s.state in
      let ws = plan_writes t in
      with-made s (writes_of t) (le_refl (writes_of t))
      (rw (s.image, s.left, whole-plan W t)
      (sym (written-append (table_in t).image (take s.made ws) (drop s.made ws)) ∙ ap (written (table_in t).image) (take-append-drop s.made ws)))
      (sym (none_left W t))

  -- a plan made to its end has been applied
  abbrev stands-ended : {now : Now} (s : Stands W M now) → s.made ≡ writes_of s.state → Stands W M now
  stands-ended s e =
      let t = s.state in
      record {
        calls = s.calls ++ (apply_plan ∷ []);
        state = after_apply t;
        reaches = one_more s apply_plan;
        standing = applied-standing W t s.standing;
        made = 0;
        within = zero-le;
        image = s.image ∙ rw e (applied-image W t s.standing);
        left = s.left ∙ rw (e, applied-none W t) (none_left W t);
      }

  -- a set or a removal, by its plan on an image; where a rule is broken it is refused
  module _ (c : Call) (row : List ℕ) (request : Table → Request) (plan : Image → Planned)
      (planned-so : (t : Table) → (request t).plan ≡ plan t.image)
      (leads-so : (s : State) → state_after W M s c ≡ after_plan W s row (request (table_in s)) (request (table_in s)).plan)
      (held-so : (s : State) → CallClaim W M s c → Held W M (table_in s) row (request (table_in s)) (request (table_in s)).plan)
      (refused-so : (cs : Image) → image_fault W 0 [] cs ≢ fine → (now : Now) → now_planned now (plan cs) ≡ now) where
    -- no write was made of a plan that waits: a call of the sequence
    stands-planned : {now : Now} (s : Stands W M now) → s.made ≡ 0 → Stands W M (now_planned now (plan now.image))
    stands-planned {now} s z =
        let e : now.image ≡ (table_in s.state).image = s.image ∙ ap (λ k. written (table_in s.state).image (take k (plan_writes s.state))) z in
        subst (λ p. Stands W M (now_planned now p)) (planned-so (table_in s.state) ∙ ap plan (sym e))
        (go r.plan (held-so s.state (claimed s c)) (one_more s c ∙ leads-so s.state) e)
      where
        r : Request
        r = request (table_in s.state)

        go : (p : Planned) → Held W M (table_in s.state) row r p
            → reached W M (idle (empty_table M)) (s.calls ++ (c ∷ [])) ≡ after_plan W s.state row r p
            → now.image ≡ (table_in s.state).image → Stands W M (now_planned now p)
        go (refuses x y) h reaches e = record {
          calls = s.calls ++ (c ∷ []);
          state = with_table s.state (refused_table (table_in s.state) r);
          reaches = reaches;
          standing = plan-standing W M s.state row r (refuses x y) s.standing h;
          made = 0;
          within = zero-le;
          image = rw (with-table s.state (refused_table (table_in s.state) r)) e;
          left = rw (with-writes s.state (refused_table (table_in s.state) r)) (s.left ∙ ap (λ k. drop k (plan_writes s.state)) z);
        }
        go (writes ws) h reaches e = record {
          calls = s.calls ++ (c ∷ []);
          state = _;
          reaches = reaches;
          standing = plan-standing W M s.state row r (writes ws) s.standing h;
          made = 0;
          within = zero-le;
          image = e;
          left = sym (rw (read_back, take-append-le (length ws) ws _ (le_refl (length ws))) (take-length ws));
        }

    stands-called : {now : Now} → Stands W M now → Stands W M (now_planned now (plan now.image))
    stands-called {now} s = by_test (leb 1 s.made)
        (λ e. by_test (ltb s.made (writes_of s.state))
        (λ l. subst (Stands W M) (sym (refused-so now.image (halfway s.state s.standing (stands-cut s) (leb-true 1 _ e) (ltb-true _ _ l)) now)) s)
        (λ l. stands-planned (stands-ended s (omega (arith, s.within, ltb-false s.made (writes_of s.state) l))) refl))
        (λ e. stands-planned s (omega (arith, leb-false 1 s.made e)))
      where
        halfway : (t : State) → Standing W t → {k : ℕ} → now.image ≡ cut_of W t k → 1 ≤ k → k < writes_of t → image_fault W 0 [] now.image ≢ fine
        halfway (idle t) h e l m = absurd (omega arith)
        halfway (planned p t t') h e l m = rw e (h.unfinished _ l m)

  -- a broken rule is refused, whatever else is tested
  refuses-broken : (v : Verdict) (p : Planned) (cs : Image) → image_fault W 0 [] cs ≢ fine → (now : Now)
      → now_planned now (if_fine (table_fault W (addresses cs) (tags cs) then v) p) ≡ now
  refuses-broken v p cs b now = go (table_fault W (addresses cs) (tags cs)) (λ e. b (rw cells-back at (in_turn (size_fault (addresses cs) (tags cs)) _ e).1))
    where
      go : (u : Verdict) → u ≢ fine → now_planned now (if_fine (u then v) p) ≡ now
      go fine n = absurd (n refl)
      go (fault x y) n = refl

  stands-call : (c : Call) {now : Now} → Stands W M now → Stands W M (now_called W now c)
  stands-call (set a n h row) s = stands-called (set a n h row) row (λ t. set_request W M t a n h (length row)) (λ cs. plan_set W (addresses cs) (tags cs) a n h (length row))
      (λ t. refl) (λ t. refl) (λ t k. k.1) (λ cs. refuses-broken _ _ cs) s
  stands-call (remove a n row) s = stands-called (remove a n row) row (λ t. remove_request W M t a n (length row)) (λ cs. plan_remove W (addresses cs) (tags cs) a n (length row))
      (λ t. refl) (λ t. refl) (λ t k. k.1) (λ cs. refuses-broken _ _ cs) s
  stands-call apply_plan s = stands-applied s
  stands-call (apply_refused row k) s = s

  pub stands_read : (es : List Event) (now : Now) → Stands W M now → (cs : Image) → cs ∈ images_read W es now → InSequence W M cs × KeepsS1 W cs
  stands_read [] now s cs m = absurd (Memᴰ.not-nil m)
  stands_read (update c ∷ es) now s cs m = stands_read es (now_called W now c) (stands-call c s) cs m
  stands_read (write ∷ es) now s cs m = stands_read es (now_written now) (stands-write s) cs m
  stands_read (read ∷ es) now s cs m = go (Memᴰ.cases_cons m) (stands_read es now s cs)
    where
      go : (cs ≡ now.image) ⊎ (cs ∈ images_read W es now) → (cs ∈ images_read W es now → InSequence W M cs × KeepsS1 W cs) → InSequence W M cs × KeepsS1 W cs
      go (inl e) ih = rw e (in-sequence s, keeps-now s)
      go (inr l) ih = ih l

  -- the empty table
  pub stands-empty : Stands W M (at_first M)
  stands-empty = record {
    calls = [];
    state = idle (empty_table M);
    reaches = refl;
    made = 0;
    within = zero-le;
    image = refl;
    left = refl;
    standing = record { some = rw length-replicate i; few = rw length-replicate j; keeps = λ c m. member (Keeps W) (all-copies (Keeps W) M free refl) m };
  }
