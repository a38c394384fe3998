-- The bindings of every node of the definition: references fall, and no number is bound twice on a path.
-- Serves "A trail entry", "different along a path" and "a REF to a lower-numbered variable's cell" of document 01. Assumes nothing.
use Rattle.std.specs.Prelude.{List, [], ◌++◌, ◌∷◌, ◌≡◌, refl, ℕ}
use Rattle.std.proofs.Common.{append_assoc, append-nil, ◌∙◌, ap, sym}
use Rattle.std.proofs.Math.Option.{Option, none, some}
use Rattle.std.proofs.Math.ListN.{get_elem?}
use Rattle.model.specs.Definition.{Binding, Node, Waiting, child_base, child_by_first, definition, extend, goal_child, lookup, root, unify_head, waiting}
use Rattle.model.specs.Rules.{Argument, Clause, Goal, Rules, call, clauses_of}
use Rattle.model.specs.Search.{ClausePath, node_at}
use Rattle.theory.specs.Definition.Sane.{BoundOnce, ByClause, Continues, Sane}
use Rattle.theory.proofs.Definition.Unifying.{unify_head-sane}
use Rattle.theory.proofs.Kit.Maps.{some-none}
use Rattle.theory.proofs.Tree.Nodes.{node_at-child, node_at-none}

pub child-by_clause : (R : Rules) (N M : Node) (k : ℕ) → child_by_first R N N.goals k ≡ some M → ByClause R N M k
unfolding child_by_first goal_child extend
child-by_clause R N M k e = top N.goals refl e
  where
    made-node : Clause → List Waiting → List Binding → Node
    made-node c ts B = record { goals = waiting (child_base N) c.goals ++ ts; bindings = B; base = child_base N; variables = c.variables }

    head : (p : ℕ) (arguments : List Argument) (goal_base : ℕ) (ts : List Waiting) (c : Clause) → N.goals ≡ record { goal = call p arguments; base = goal_base } ∷ ts
        → get_elem? (clauses_of R p) k ≡ some c
        → (o : Option (List Binding)) → unify_head N.bindings (child_base N) c.head goal_base arguments ≡ o → extend N ts goal_base arguments (some c) ≡ some M
        → ByClause R N M k
    head p arguments goal_base ts c f t none u x = absurd (some-none x (rw (u, extend) refl))
    head p arguments goal_base ts c f t (some B) u x =
        let z = rw (u, extend) at x in
        let y : made-node c ts B ≡ M = cc in
        record { predicate = p; arguments = arguments; goal_base = goal_base; others = ts; clause = c; bindings = B; first = f; taken = t; unified = u; is = sym y }

    clause : (p : ℕ) (arguments : List Argument) (goal_base : ℕ) (ts : List Waiting) (o : Option Clause)
        → N.goals ≡ record { goal = call p arguments; base = goal_base } ∷ ts → get_elem? (clauses_of R p) k ≡ o
        → extend N ts goal_base arguments o ≡ some M → ByClause R N M k
    clause p arguments goal_base ts none f t x = absurd (some-none x refl)
    clause p arguments goal_base ts (some c) f t x = head p arguments goal_base ts c f t (unify_head N.bindings (child_base N) c.head goal_base arguments) refl x

    goal : (goal_base : ℕ) (ts : List Waiting) (g : Goal) → N.goals ≡ record { goal = g; base = goal_base } ∷ ts → goal_child R N ts goal_base g k ≡ some M
        → ByClause R N M k
    goal goal_base ts (call p arguments) f x = clause p arguments goal_base ts (get_elem? (clauses_of R p) k) f refl x

    top : (ts : List Waiting) → N.goals ≡ ts → child_by_first R N ts k ≡ some M → ByClause R N M k
    top [] f x = absurd (some-none x refl)
    top (t ∷ ts) f x = goal t.base ts t.goal f x

pub child-sane : (R : Rules) (N M : Node) (k : ℕ) → Sane N.bindings → child_by_first R N N.goals k ≡ some M → Continues N.bindings M.bindings
child-sane R N M k s e =
    let b = child-by_clause R N M k e in
    rw (ap (λ (x : Node). x.bindings) b.is) (unify_head-sane N.bindings (child_base N) b.clause.head b.goal_base b.arguments b.bindings s b.unified)

-- along a path the bindings only grow, and stay sane
pub node_at-sane : (R : Rules) (q : Clause) (d : ClausePath) (N M : Node) → Sane N.bindings → node_at (definition R q) N d ≡ some M
    → Continues N.bindings M.bindings
unfolding node_at
node_at-sane R q [] N M s e = let z : N ≡ M = cc in record { made = []; is = ap (λ (x : Node). x.bindings) (sym z) ∙ sym (append-nil N.bindings); sane = rw (← z) s }
node_at-sane R q (k ∷ d) N M s e = go (child_by_first R N N.goals k) refl (λ K. node_at-sane R q d K M)
  where
    go : (o : Option Node) → child_by_first R N N.goals k ≡ o
        → ((K : Node) → Sane K.bindings → node_at (definition R q) K d ≡ some M → Continues K.bindings M.bindings) → Continues N.bindings M.bindings
    go none c ih = absurd (some-none e (node_at-none (definition R q) N k d c))
    go (some K) c ih =
        let f = child-sane R N K k s c in
        let r = ih K f.sane (sym (node_at-child (definition R q) N K k d c) ∙ e) in
        record { made = f.made ++ r.made; is = r.is ∙ ap (λ (B : List Binding). B ++ r.made) f.is ∙ append_assoc N.bindings f.made r.made; sane = r.sane }

-- of every node of the tree: references fall, no number is bound twice on its path
pub definition-sane : (R : Rules) (q : Clause) (d : ClausePath) (N : Node) → node_at (definition R q) (root q) d ≡ some N → Sane N.bindings
unfolding root lookup BoundOnce
definition-sane R q d N e = (node_at-sane R q d (root q) N (record { falls = λ n m h. absurd (some-none h refl); bound_once = tt }) e).sane
