-- Of rules and a query whose variable numbers are below the declared counts, every node of the definition binds and waits for numbers below the end of its own.
-- Serves "base is the parent's base plus the parent's variables" of document 01: a child's own variables are unbound when its head is unified. Assumes nothing.
use Rattle.std.specs.Prelude.{List, [], ◌++◌, ◌∷◌, ◌≡◌, refl, ◌*◌, ◌+◌, ◌≤◌, suc, ℕ, length}
use Rattle.std.proofs.Math.Option.{Option, none, some}
use Rattle.std.proofs.Common.{◌∙◌, ap, sym, arith}
use Rattle.model.specs.Definition.{Binding, Node, Waiting, child_base, child_by_first, definition, lookup, root, waiting}
use Rattle.model.specs.Rules.{Clause, Goal, Rules, call}
use Rattle.model.specs.Search.{ClausePath, node_at}
use Rattle.theory.proofs.Definition.Nodes.{child-by_clause}
use Rattle.theory.proofs.Definition.Numbers.{unify_head-low}
use Rattle.theory.specs.Definition.Sane.{BoundBelow, BoundOnce, ByClause, ClauseBelow, GoalBelow, GoalsBelow, NodeBelow, RulesBelow, RulesSmall, WaitingBelow}
use Rattle.theory.proofs.Definition.Unifying.{unify_head-sane}
use Rattle.theory.proofs.Kit.Maps.{some-none}
use Rattle.theory.proofs.Tree.Nodes.{node_at-child, node_at-none}

pub bound_below-more : (k l : ℕ) (B : List Binding) → k ≤ l → BoundBelow k B → BoundBelow l B
unfolding BoundBelow
bound_below-more k l B h b n m = b n (omega arith)

pub waiting_below-more : (k l : ℕ) (gs : List Waiting) → k ≤ l → WaitingBelow k gs → WaitingBelow l gs
unfolding WaitingBelow
waiting_below-more k l [] h w = tt
waiting_below-more k l (g ∷ gs) h ((n, b, v), w) = ((n, omega arith, v), waiting_below-more k l gs h w)

pub waiting_below-append : (k : ℕ) (gs hs : List Waiting) → WaitingBelow k gs → WaitingBelow k hs → WaitingBelow k (gs ++ hs)
unfolding WaitingBelow
waiting_below-append k [] hs w v = v
waiting_below-append k (g ∷ gs) hs (h, w) v = (h, waiting_below-append k gs hs w v)

pub waiting_below-clause : (k b n : ℕ) (gs : List Goal) → b + n ≤ k → GoalsBelow n gs → WaitingBelow k (waiting b gs)
unfolding WaitingBelow GoalsBelow
waiting_below-clause k b n [] h g = tt
waiting_below-clause k b n (x ∷ gs) h (v, g) = ((n, h, v), waiting_below-clause k b n gs h g)

pub child-below : (R : Rules) → RulesBelow R → (N M : Node) (k : ℕ) → NodeBelow N → child_by_first R N N.goals k ≡ some M → NodeBelow M
unfolding RulesBelow
child-below R legal N M k low e = go (child-by_clause R N M k e)
  where
    go : ByClause R N M k → NodeBelow M
    go b = rw b.is (made (legal b.predicate k b.clause b.taken) (unfold WaitingBelow in (rw b.first at low.waits)))
      where
        made : ClauseBelow b.clause
            → ((n : ℕ) × (b.goal_base + n ≤ N.base + N.variables) × GoalBelow n (call b.predicate b.arguments)) × WaitingBelow (N.base + N.variables) b.others
            → NodeBelow (record { goals = waiting (child_base N) b.clause.goals ++ b.others; bindings = b.bindings; base = child_base N; variables = b.clause.variables })
        made c ((n, h, v), w) =
            record {
              sane = (unify_head-sane N.bindings (child_base N) b.clause.head b.goal_base b.arguments b.bindings low.sane b.unified).sane;
              bound =
                  unify_head-low (child_base N + b.clause.variables) N.bindings (child_base N) b.clause.variables b.clause.head b.goal_base n b.arguments b.bindings (omega arith) (omega arith) c.head (unfold GoalBelow in v)
                  low.sane (bound_below-more (N.base + N.variables) (child_base N + b.clause.variables) N.bindings (omega arith) low.bound) b.unified;
              waits =
                  waiting_below-append (child_base N + b.clause.variables) (waiting (child_base N) b.clause.goals) b.others
                  (waiting_below-clause (child_base N + b.clause.variables) (child_base N) b.clause.variables b.clause.goals (omega arith) c.goals)
                  (waiting_below-more (N.base + N.variables) (child_base N + b.clause.variables) b.others (omega arith) w);
            }

pub node_at-below : (R : Rules) (q : Clause) → RulesBelow R → (d : ClausePath) (N M : Node) → NodeBelow N → node_at (definition R q) N d ≡ some M → NodeBelow M
unfolding node_at
node_at-below R q legal [] N M low e = let z : N ≡ M = cc in rw (← z) low
node_at-below R q legal (k ∷ d) N M low e = go (child_by_first R N N.goals k) refl (λ K. node_at-below R q legal d K M)
  where
    go : (o : Option Node) → child_by_first R N N.goals k ≡ o → ((K : Node) → NodeBelow K → node_at (definition R q) K d ≡ some M → NodeBelow M) → NodeBelow M
    go none c ih = absurd (some-none e (node_at-none (definition R q) N k d c))
    go (some K) c ih = ih K (child-below R legal N K k low c) (sym (node_at-child (definition R q) N K k d c) ∙ e)

pub root_below : (q : Clause) → GoalsBelow q.variables q.goals → NodeBelow (root q)
unfolding root BoundBelow BoundOnce lookup
root_below q g =
    record {
      sane = record { falls = λ n m h. absurd (some-none h refl); bound_once = tt };
      bound = λ n h. refl;
      waits = waiting_below-clause (0 + q.variables) 0 q.variables q.goals (omega arith) g;
    }

-- of every node of the tree
pub definition-below : (R : Rules) (q : Clause) → RulesBelow R → GoalsBelow q.variables q.goals → (d : ClausePath) (N : Node)
    → node_at (definition R q) (root q) d ≡ some N → NodeBelow N
definition-below R q legal goals d N e = node_at-below R q legal d (root q) N (root_below q goals) e

pub node_at-small : (R : Rules) (q : Clause) → RulesSmall R → (d : ClausePath) (N M : Node) → node_at (definition R q) N d ≡ some M
    → M.base + M.variables ≤ N.base + N.variables + 32 * length d
unfolding node_at RulesSmall
node_at-small R q small [] N M e = let z : N ≡ M = cc in rw (← z) (omega arith)
node_at-small R q small (k ∷ d) N M e = go (child_by_first R N N.goals k) refl (λ K. node_at-small R q small d K M)
  where
    next : (K : Node) → ByClause R N K k → K.base + K.variables ≤ N.base + N.variables + 32
    next K b =
        let v = small b.predicate k b.clause b.taken in
        rw (ap (λ (x : Node). x.base + x.variables) b.is) (omega (arith, v))

    go : (o : Option Node) → child_by_first R N N.goals k ≡ o
        → ((K : Node) → node_at (definition R q) K d ≡ some M → M.base + M.variables ≤ K.base + K.variables + 32 * length d)
        → M.base + M.variables ≤ N.base + N.variables + 32 * suc (length d)
    go none c ih = absurd (some-none e (node_at-none (definition R q) N k d c))
    go (some K) c ih =
        let h = next K (child-by_clause R N K k c) in
        let m = ih K (sym (node_at-child (definition R q) N K k d c) ∙ e) in
        omega arith

-- a node at the end of a path of n clauses has no number at or past 32 (n + 1)
pub definition-small : (R : Rules) (q : Clause) → RulesSmall R → q.variables ≤ 32 → (d : ClausePath) (N : Node) → node_at (definition R q) (root q) d ≡ some N
    → N.base + N.variables ≤ 32 * suc (length d)
unfolding root
definition-small R q small v d N e = let h = node_at-small R q small d (root q) N e in omega arith
