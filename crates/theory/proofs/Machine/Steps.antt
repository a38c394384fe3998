-- Every step keeps the machine good, one fact for each rule.
-- Serves rules 1 to 7 of document 01's steps. Assumes nothing.
use Rattle.std.specs.Prelude.{Bool, ◌&&◌, [], ◌++◌, ◌∷◌, ◌≢◌, ◌⊎◌, ◌≡◌, ◌<◌, ℕ, eqb}
use Rattle.std.proofs.Math.Bool.{false, true}
use Rattle.std.proofs.Common.{inl, inr, ◌∙◌, ap, sym}
use Rattle.std.proofs.Math.Option.{Option, none, some}
use Rattle.std.proofs.Math.Path.{refl}
use borrow.Author.Tests.{eqb-false, eqb-true, ltb-false}
use Rattle.model.specs.Machine.{Machine, Size, UsedSlot, another_there, child_slot, dead_rule, free, grow, has_child, is_free, live, live_rule, lowest_free, node_rule, raise, slot_rule, step}
use Rattle.model.specs.Maps.{put}
use Rattle.model.specs.Search.{Search}
use Rattle.theory.proofs.Kit.Bounded.{Lowest, lowest_below-found, there}
use Rattle.theory.proofs.Kit.ClausePaths.{longer}
use Rattle.theory.proofs.Kit.Maps.{Met, Passed, put-cases, put_other, put_same, some-none}
use Rattle.theory.specs.Machine.Invariants.{Good, InUse}
use Rattle.theory.proofs.Machine.Tests.{another_there-false, free-in_use, goes-good, grow-in_use, has_child-false, is_free-none, put-in_use}
use Rattle.theory.specs.Tree.Laws.{Laws}
use Rattle.theory.proofs.Tree.Reports.{books-answer, books-extended, books-free, books-tried}
use Rattle.theory.proofs.Tree.Shapes.{raise-grows, shape_free, shape-grow, shape-grows}
use Rattle.theory.specs.Tree.Slots.{Extends, Frees, Parent}

module _ (T : Search) (Z : Size) where
  module _ (L : Laws T) (M : Machine T) (w s : ℕ) (e : UsedSlot T) (lw : w < Z.workers) (ats : M.at w ≡ s) (here : M.slots s ≡ some e) (g : Good T Z M) where
    dead_rule-good : (c r o : Bool) → has_child T Z M s ≡ c → eqb s 0 ≡ r → another_there T Z M w s ≡ o → live T e ≡ false → Good T Z (dead_rule T Z c r o M w s e).machine
    unfolding dead_rule live
    dead_rule-good true r o hc hr ho d = g
    dead_rule-good false true o hc hr ho d = g
    dead_rule-good false false true hc hr ho d =
        let p = g.shape.parents s e here (eqb-false s 0 hr) in
        goes-good T Z M w e.parent g (p.up, p.used)
    dead_rule-good false false false hc hr ho d =
        let p = g.shape.parents s e here (eqb-false s 0 hr) in
        record {
          shape = shape_free T M.slots s e dr g.shape;
          books = books-free T L M.slots M.reported s e dr g.books;
          low = λ t f u. lows t f (put-cases M.slots s none t (some f) (unfold free in u));
          stands = λ v l. stand p.up p.used p v l (eqb v w) refl;
        }
      where
        dr : Frees T M.slots s e
        dr = record { used = here; inner = eqb-false s 0 hr; dead = ltb-false e.tried (T.clause_count e.node) d; childless = λ t f u z q. has_child-false T Z M s hc t f u (g.low t f u) z q }

        lows : (t : ℕ) (f : UsedSlot T) → Met M.slots s none t (some f) ⊎ Passed M.slots s t (some f) → t < Z.slots
        lows t f (inl m) = absurd (some-none refl m.is)
        lows t f (inr m) = g.low t f m.was

        shorter : (f : UsedSlot T) → M.slots e.parent ≡ some f → Parent T M.slots s e → e.parent ≢ s
        shorter f u p h =
            let x : M.slots e.parent ≡ M.slots s = ap M.slots h in
            let y : p.up ≡ e = cc p.used in
            longer e.path p.k [] (sym (p.path ∙ ap (λ (z : UsedSlot T). z.path ++ (p.k ∷ [])) y))

        stand : (f : UsedSlot T) → M.slots e.parent ≡ some f → Parent T M.slots s e → (v : ℕ) → v < Z.workers → (b : Bool) → eqb v w ≡ b
            → InUse T (free T M.slots s) (put M.at w e.parent v)
        stand f u p v l true q = rw (eqb-true v w q, put_same M.at w e.parent) (free-in_use T M.slots s e.parent (shorter f u p) (f, u))
        stand f u p v l false q =
            let z = eqb-false v w q in
            rw (put_other M.at w v e.parent z) (free-in_use T M.slots s (M.at v) (λ x. another_there-false T Z M w s ho v l z x) (g.stands v l))

    taken-good : (o : Option T.Node) (c : ℕ) → T.child e.node e.tried ≡ o → M.slots c ≡ none → c < Z.slots
        → Good T Z (live_rule T Z false (some c) o M w s e).machine
    unfolding live_rule grow
    taken-good none c q fr lc =
        record {
          shape = shape-grows T M.slots (raise T M.slots s e) (raise-grows T M.slots s e here) g.shape;
          books = books-tried T M.slots M.reported s e here q g.books;
          low = λ t f u. let x = (raise-grows T M.slots s e here).back t f u in g.low t x.ent x.used;
          stands = λ v l. let h = g.stands v l in let x = (raise-grows T M.slots s e here).forth (M.at v) h.0 h.1 in (x.ent, x.used);
        }
    taken-good (some m) c q fr lc = go (T.without_goals m) refl
      where
        x : Extends T M.slots s e c m
        x = record { used = here; room = fr; child = q }

        lows : (t : ℕ) (f : UsedSlot T) → Met (raise T M.slots s e) c (some (child_slot T s e m)) t (some f) ⊎ Passed (raise T M.slots s e) c t (some f)
            → t < Z.slots
        lows t f (inl z) = rw z.at lc
        lows t f (inr z) = let y = (raise-grows T M.slots s e here).back t f z.was in g.low t y.ent y.used

        lows-grown : (t : ℕ) (f : UsedSlot T) → grow T M.slots s e c m t ≡ some f → t < Z.slots
        lows-grown t f u = lows t f (put-cases (raise T M.slots s e) c (some (child_slot T s e m)) t (some f) u)

        born-used : InUse T (grow T M.slots s e c m) c
        born-used = (child_slot T s e m, put_same (raise T M.slots s e) c (some (child_slot T s e m)))

        stand : (v : ℕ) → v < Z.workers → InUse T (grow T M.slots s e c m) (put M.at w c v)
        stand v l = put-in_use T M.slots (grow T M.slots s e c m) M.at w c (grow-in_use T M.slots s e c m here fr) born-used v (g.stands v l)

        go : (b : Bool) → T.without_goals m ≡ b → Good T Z (live_rule T Z false (some c) (some m) M w s e).machine
        go true h = rw (h, live_rule) (record { shape = shape-grow T L M.slots s e c m x g.shape; books = books-answer T M.slots M.reported s e c m x h g.shape g.books; low = lows-grown; stands = stand })
        go false h = rw (h, live_rule) (record { shape = shape-grow T L M.slots s e c m x g.shape; books = books-extended T M.slots M.reported s e c m x h g.shape g.books; low = lows-grown; stands = stand })

    room-good : (o : Option ℕ) → Lowest Z.slots (λ t. is_free T (M.slots t)) o → Good T Z (live_rule T Z false o (T.child e.node e.tried) M w s e).machine
    unfolding live_rule
    room-good none f = g
    room-good (some c) (there h) = taken-good (T.child e.node e.tried) c refl (is_free-none T (M.slots c) h.passes) h.low

    live_rule-good : (b : Bool) → Good T Z (live_rule T Z b (lowest_free T Z M) (T.child e.node e.tried) M w s e).machine
    unfolding live_rule lowest_free
    live_rule-good true = g
    live_rule-good false = room-good (lowest_free T Z M) (lowest_below-found Z.slots (λ t. is_free T (M.slots t)))

    node_rule-good : (b : Bool) → live T e ≡ b → Good T Z (node_rule T Z b M w s e).machine
    unfolding node_rule
    node_rule-good true q = live_rule-good (T.sequential e.node && has_child T Z M s)
    node_rule-good false q = dead_rule-good (has_child T Z M s) (eqb s 0) (another_there T Z M w s) refl refl refl q

  slot_rule-good : Laws T → (M : Machine T) (w : ℕ) → w < Z.workers → Good T Z M → (o : Option (UsedSlot T)) → M.slots (M.at w) ≡ o
      → Good T Z (slot_rule T Z o M w (M.at w)).machine
  unfolding slot_rule
  slot_rule-good L M w lw g none q = g
  slot_rule-good L M w lw g (some e) q = node_rule-good L M w (M.at w) e lw refl q g (live T e) refl

  -- every step keeps the books
  pub step-good : Laws T → (M : Machine T) (w : ℕ) → w < Z.workers → Good T Z M → Good T Z (step T Z M w).machine
  unfolding step
  step-good L M w lw g = slot_rule-good L M w lw g (M.slots (M.at w)) refl
