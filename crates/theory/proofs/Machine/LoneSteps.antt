-- Every step of a worker alone keeps `Lone`, one fact for each rule.
-- Serves rules 1 to 7 of document 01's steps, for demand 2's "depth first in clause order". Assumes nothing.
use Rattle.std.specs.Prelude.{Bool, ◌&&◌, ◌≢◌, ◌⊎◌, ◌≡◌, ◌<◌, ℕ, eqb}
use Rattle.std.proofs.Math.Bool.{false, true}
use mathlib.Core.List.Memᴰ
use mathlib.Core.List.{Memᴰ, [], ◌++◌, ◌∷◌, append_assoc, append-nil}
use Rattle.std.proofs.Common.{inl, inr, ◌∙◌, sym, arith}
use Rattle.std.proofs.Math.Option.{Option, none, some}
use Rattle.std.proofs.Math.Path.{ap, refl}
use Rattle.std.proofs.lemmas.Bool.{eqb-false}
use Rattle.model.specs.Demands.{Before, order-more}
use Rattle.model.specs.Machine.{Machine, Size, Slots, UsedSlot, another_there, child_slot, dead_rule, free, grow, has_child, is_free, live, live_rule, lowest_free, node_rule, raise, slot_rule, step}
use Rattle.model.specs.Maps.{put}
use Rattle.model.specs.Search.{ClausePath, Search}
use Rattle.theory.proofs.Kit.Bounded.{Lowest, lowest_below-found, there}
use Rattle.theory.proofs.Kit.ClausePaths.{Above, Ends, last_step}
use Rattle.theory.proofs.Kit.Maps.{Met, Passed, put-cases, put_same, some-none}
use Rattle.theory.specs.Machine.Invariants.{Good, Lone}
use Rattle.theory.proofs.Machine.Lone.{another_there-lone, answer-before, put-idle}
use Rattle.theory.proofs.Machine.Steps.{step-good}
use Rattle.theory.proofs.Machine.Tests.{is_free-none}
use Rattle.theory.specs.Tree.Laws.{Laws}
use Rattle.theory.proofs.Tree.Nodes.{node_at-child, node_at-here}
use Rattle.theory.proofs.Tree.Pendings.{pending-grow-back, pending-grows}
use Rattle.theory.proofs.Tree.Shapes.{raise-grows}
use Rattle.theory.specs.Tree.Slots.{Extends, Later, Parent, Pending}

module _ (T : Search) (Z : Size) (L : Laws T) where
  module _ (M : Machine T) (w : ℕ) (lw : w < Z.workers) (l : Lone T Z M w) where
    abbrev S₀ : Slots T
    S₀ = M.slots

    -- rules 1 to 4
    dead_rule-lone : (c r o : Bool) → has_child T Z M (M.at w) ≡ c → eqb (M.at w) 0 ≡ r → another_there T Z M w (M.at w) ≡ o
        → Good T Z (dead_rule T Z c r o M w (M.at w) l.ent).machine → Lone T Z (dead_rule T Z c r o M w (M.at w) l.ent).machine w
    unfolding dead_rule
    dead_rule-lone true r o hc hr ho g = l
    dead_rule-lone false true o hc hr ho g = l
    dead_rule-lone false false true hc hr ho g = absurd (another_there-lone T Z M w (M.at w) l.idle (eqb-false (M.at w) 0 hr) ho)
    dead_rule-lone false false false hc hr ho g = go (g.stands w lw)
      where
        was : (t : ℕ) (f : UsedSlot T) → free T S₀ (M.at w) t ≡ some f → Met S₀ (M.at w) none t (some f) ⊎ Passed S₀ (M.at w) t (some f)
        was t f u = put-cases S₀ (M.at w) none t (some f) (unfold free in u)

        stay : (t : ℕ) (f : UsedSlot T) → Met S₀ (M.at w) none t (some f) ⊎ Passed S₀ (M.at w) t (some f) → (t ≢ M.at w) × (S₀ t ≡ some f)
        stay t f (inl m) = absurd (some-none refl m.is)
        stay t f (inr m) = (m.off, m.was)

        par : Parent T S₀ (M.at w) l.ent
        par = l.good.shape.parents (M.at w) l.ent l.here (eqb-false (M.at w) 0 hr)

        cut : (f : UsedSlot T) (t : ℕ) → t ≢ M.at w → S₀ t ≡ some f → (p : Parent T S₀ (M.at w) l.ent) → (r : ClausePath) → l.ent.path ≡ f.path ++ r
            → (r : ClausePath) × (p.up.path ≡ f.path ++ r)
        cut f t off u p [] q = absurd (off (l.good.shape.apart t (M.at w) f l.ent u l.here (sym (append-nil f.path) ∙ sym q)))
        cut f t off u p (j ∷ r) q = which (last_step f.path p.up.path j p.k r (sym q ∙ p.path))
          where
            which : Ends f.path p.up.path j p.k r ⊎ Above f.path p.up.path j p.k r → (r : ClausePath) × (p.up.path ≡ f.path ++ r)
            which (inl h) = ([], sym h.same ∙ sym (append-nil f.path))
            which (inr h) = (j ∷ h.between, h.lower)

        back : (p : ClausePath) → Pending T (free T S₀ (M.at w)) p → Pending T S₀ p
        back d p = record { slot = p.slot; ent = p.ent; used = (stay p.slot p.ent (was p.slot p.ent p.used)).1; k = p.k; rest = p.rest; untried = p.untried; path = p.path; der = p.der }

        up_is : (f : UsedSlot T) → free T S₀ (M.at w) (put M.at w l.ent.parent w) ≡ some f → f ≡ par.up
        up_is f u =
            let z = put_same M.at w l.ent.parent in
            let v : free T S₀ (M.at w) l.ent.parent ≡ some f = rw z at u in
            let y = stay l.ent.parent f (was l.ent.parent f v) in
            cc (y.1, par.used)

        go : (e : UsedSlot T) × (free T S₀ (M.at w) (put M.at w l.ent.parent w) ≡ some e)
            → Lone T Z (dead_rule T Z false false false M w (M.at w) l.ent).machine w
        go u =
            record {
              good = g;
              ent = u.0;
              here = u.1;
              prefix = λ t f v.
                  let y = stay t f (was t f v) in
                  let q = l.prefix t f y.1 in
                  let k = cut f t y.0 y.1 par q.0 q.1 in
                  (k.0, ap (λ (x : UsedSlot T). x.path) (up_is u.0 u.1) ∙ k.1);
              before = λ d p h q. l.before d p h (back p q);
              ordered = l.ordered;
              idle = put-idle M.at w l.ent.parent l.idle;
            }

    -- rule 7
    taken-lone : (o : Option T.Node) (c : ℕ) → T.child l.ent.node l.ent.tried ≡ o → S₀ c ≡ none
        → Good T Z (live_rule T Z false (some c) o M w (M.at w) l.ent).machine → Lone T Z (live_rule T Z false (some c) o M w (M.at w) l.ent).machine w
    unfolding live_rule grow
    taken-lone none c q fr g = go ((raise-grows T S₀ (M.at w) l.ent l.here).forth (M.at w) l.ent l.here)
      where
        go : Later T (raise T S₀ (M.at w) l.ent) (M.at w) l.ent → Lone T Z (live_rule T Z false (some c) none M w (M.at w) l.ent).machine w
        go n =
            record {
              good = g;
              ent = n.ent;
              here = n.used;
              prefix = λ t f v.
                  let y = (raise-grows T S₀ (M.at w) l.ent l.here).back t f v in
                  let k = l.prefix t y.ent y.used in
                  (k.0, n.grown.path ∙ k.1 ∙ ap (λ (x : ClausePath). x ++ k.0) (sym y.grown.path));
              before = λ d p h x. l.before d p h (pending-grows T S₀ (raise T S₀ (M.at w) l.ent) (raise-grows T S₀ (M.at w) l.ent l.here) p x);
              ordered = l.ordered;
              idle = l.idle;
            }
    taken-lone (some m) c q fr g = go (T.without_goals m) refl g
      where
        e : UsedSlot T
        e = l.ent

        x : Extends T S₀ (M.at w) l.ent c m
        x = record { used = l.here; room = fr; child = q }

        pre : (t : ℕ) (f : UsedSlot T)
            → Met (raise T S₀ (M.at w) l.ent) c (some (child_slot T (M.at w) l.ent m)) t (some f) ⊎ Passed (raise T S₀ (M.at w) l.ent) c t (some f)
            → (r : ClausePath) × (l.ent.path ++ (l.ent.tried ∷ []) ≡ f.path ++ r)
        pre t f (inl z) = let h : f ≡ child_slot T (M.at w) l.ent m = cc z.is in ([], ap (λ (y : UsedSlot T). y.path) (sym h) ∙ sym (append-nil f.path))
        pre t f (inr z) =
            let y = (raise-grows T S₀ (M.at w) l.ent l.here).back t f z.was in
            let k = l.prefix t y.ent y.used in
            (k.0 ++ (l.ent.tried ∷ []), ap (λ (s : ClausePath). s ++ (l.ent.tried ∷ [])) k.1 ∙ append_assoc y.ent.path k.0 (l.ent.tried ∷ []) ∙ ap (λ (s : ClausePath). s ++ (k.0 ++ (l.ent.tried ∷ []))) (sym y.grown.path))

        prefix-grown : (t : ℕ) (f : UsedSlot T) → grow T S₀ (M.at w) l.ent c m t ≡ some f → (r : ClausePath) × (l.ent.path ++ (l.ent.tried ∷ []) ≡ f.path ++ r)
        prefix-grown t f u = pre t f (put-cases (raise T S₀ (M.at w) l.ent) c (some (child_slot T (M.at w) l.ent m)) t (some f) u)

        stood : grow T S₀ (M.at w) l.ent c m (put M.at w c w) ≡ some (child_slot T (M.at w) l.ent m)
        stood = rw (put_same M.at w c) (put_same (raise T S₀ (M.at w) l.ent) c (some (child_slot T (M.at w) l.ent m)))

        old : (d p : ClausePath) → Memᴰ d M.reported → Pending T (grow T S₀ (M.at w) l.ent c m) p → Before d p
        old d p h y = l.before d p h (pending-grow-back T S₀ (M.at w) l.ent c m x p y)

        new : T.without_goals m ≡ true → (d p : ClausePath) → (d ≡ l.ent.path ++ (l.ent.tried ∷ [])) ⊎ Memᴰ d M.reported
            → Pending T (grow T S₀ (M.at w) l.ent c m) p → Before d p
        new lf d p (inl h) y = rw h (answer-before T L S₀ (M.at w) l.ent c m x lf l.good.shape l.prefix p y)
        new lf d p (inr h) y = old d p h y

        was : T.without_goals m ≡ true → Pending T S₀ (l.ent.path ++ (l.ent.tried ∷ []))
        was lf = record {
          slot = M.at w;
          ent = l.ent;
          used = l.here;
          k = l.ent.tried;
          rest = [];
          untried = omega arith;
          path = refl;
          der = record { end = m; leads = node_at-child T l.ent.node m l.ent.tried [] q ∙ node_at-here T m; over = lf };
        }

        go : (b : Bool) → T.without_goals m ≡ b → Good T Z (live_rule T Z false (some c) (some m) M w (M.at w) l.ent).machine
            → Lone T Z (live_rule T Z false (some c) (some m) M w (M.at w) l.ent).machine w
        go true h g =
            let g' = rw (h, live_rule) at g in
            rw (h, live_rule) (record {
              good = g';
              ent = child_slot T (M.at w) l.ent m;
              here = stood;
              prefix = prefix-grown;
              before = λ d p k y. new h d p (Memᴰ.cases_cons k) y;
              ordered = order-more (λ r k. l.before r (l.ent.path ++ (l.ent.tried ∷ [])) k (was h)) l.ordered;
              idle = put-idle M.at w c l.idle;
            })
        go false h g =
            let g' = rw (h, live_rule) at g in
            rw (h, live_rule) (record { good = g'; ent = child_slot T (M.at w) l.ent m; here = stood; prefix = prefix-grown; before = old; ordered = l.ordered; idle = put-idle M.at w c l.idle })

    room-lone : (o : Option ℕ) → Lowest Z.slots (λ t. is_free T (M.slots t)) o
        → Good T Z (live_rule T Z false o (T.child l.ent.node l.ent.tried) M w (M.at w) l.ent).machine
        → Lone T Z (live_rule T Z false o (T.child l.ent.node l.ent.tried) M w (M.at w) l.ent).machine w
    unfolding live_rule
    room-lone none f g = l
    room-lone (some c) (there h) g = taken-lone (T.child l.ent.node l.ent.tried) c refl (is_free-none T (M.slots c) h.passes) g

    live_rule-lone : (b : Bool) → Good T Z (live_rule T Z b (lowest_free T Z M) (T.child l.ent.node l.ent.tried) M w (M.at w) l.ent).machine
        → Lone T Z (live_rule T Z b (lowest_free T Z M) (T.child l.ent.node l.ent.tried) M w (M.at w) l.ent).machine w
    unfolding live_rule lowest_free
    live_rule-lone true g = l
    live_rule-lone false g = room-lone (lowest_free T Z M) (lowest_below-found Z.slots (λ t. is_free T (M.slots t))) g

    node_rule-lone : (b : Bool) → Good T Z (node_rule T Z b M w (M.at w) l.ent).machine → Lone T Z (node_rule T Z b M w (M.at w) l.ent).machine w
    unfolding node_rule
    node_rule-lone true g = live_rule-lone (T.sequential l.ent.node && has_child T Z M (M.at w)) g
    node_rule-lone false g = dead_rule-lone (has_child T Z M (M.at w)) (eqb (M.at w) 0) (another_there T Z M w (M.at w)) refl refl refl g

    pub step-lone : Lone T Z (step T Z M w).machine w
    unfolding step slot_rule
    step-lone = go (M.slots (M.at w)) l.here (step-good T Z L M w lw l.good)
      where
        go : (o : Option (UsedSlot T)) → o ≡ some l.ent → Good T Z (slot_rule T Z o M w (M.at w)).machine → Lone T Z (slot_rule T Z o M w (M.at w)).machine w
        go o q g = rw q (node_rule-lone (live T l.ent) (rw q at g))
