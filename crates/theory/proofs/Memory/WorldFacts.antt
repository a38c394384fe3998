-- All slots at once: one more, one less, a move over the common entries, and each word of a walk.
-- Serves rules 4 and 7, moves, and demand 3 of document 01. Assumes nothing.
use Rattle.std.specs.Prelude.{Bool, false, true, ◌≢◌, ◌⊎◌, ◌≡◌, refl, ◌≤◌, suc, zero, ℕ, eqb, length}
use mathlib.Core.List.{List, Memᴰ, [], ◌++◌, ◌∷◌}
use Rattle.std.proofs.Common.{inl, inr, ◌∙◌, ap, sym, arith, length-append, eqb-true}
use Rattle.std.proofs.Math.Option.{none, some}
use Rattle.std.proofs.lemmas.Bool.{eqb-false}
use Rattle.model.specs.Definition.{Node, conditionals, lookup}
use Rattle.model.specs.Machine.{Slots, UsedSlot}
use Rattle.model.specs.Maps.{put}
use Rattle.model.specs.Search.{Search}
use Rattle.theory.proofs.Kit.Maps.{Met, Passed, put-cases, put_other, put_same, some-none}
use Rattle.theory.proofs.Memory.Entries.{conditionals_shown-once, install_map-elsewhere, install_map-exact, lookup_shown-conditionals, undo_map-install_map}
use Rattle.theory.specs.Memory.Fit.{Fit, Ghost, Memory, SlotMemory, empty_array, number_of, place_of}
use Rattle.theory.proofs.Memory.FitFrame.{fit-frame}
use Rattle.theory.proofs.Memory.Heads.{shown_entries-append}
use Rattle.theory.specs.Memory.Lines.{Frame}
use Rattle.theory.specs.Memory.Represents.{Place, ShownAt, ShownOnce, lookup_shown}
use Rattle.theory.specs.Memory.Store.{Shown, TrailEntry, install_map, shown_entries, unbound_word, undo_map, value}
use Rattle.theory.proofs.Memory.Tracks.{install_map-append}
use Rattle.theory.specs.Memory.World.{Lineage, Nodes, World, walk}
use Rattle.theory.specs.Tree.Slots.{Shape}

-- one slot more: the others do not notice, since c was free and so on nobody's line
pub world-grow : (M : Nodes) (X : Memory) (Γ : ℕ → Ghost) (c : ℕ) (N : Node) (v : SlotMemory) (G : Ghost) → World M X Γ → X c ≡ none → Fit (put X c (some v)) G N
    → World (put M c (some N)) (put X c (some v)) (put Γ c G)
world-grow M X Γ c N v G w room f = record { fits = λ s K e. fits s K (put-cases M c (some N) s (some K) e); free = λ s e. free s (put-cases M c (some N) s none e) }
  where
    keep : (s : ℕ) → (t : ℕ) (u : SlotMemory) → X t ≡ some u → (g : Frame) → Memᴰ g (Γ s).line → g.slot ≡ t → put X c (some v) t ≡ some u
    keep s t u e g m q = put_other X c t (some v) (λ z. some-none e (ap X z ∙ room)) ∙ e

    fits : (s : ℕ) (K : Node) → Met M c (some N) s (some K) ⊎ Passed M c s (some K) → Fit (put X c (some v)) (put Γ c G s) K
    fits s K (inl m) = let h : K ≡ N = cc m.is in rw (h, m.at, put_same Γ c G) f
    fits s K (inr m) = rw (put_other Γ c s G m.off) (fit-frame X (put X c (some v)) (Γ s) K (keep s) (w.fits s K m.was))

    free : (s : ℕ) → Met M c (some N) s none ⊎ Passed M c s none → put X c (some v) s ≡ none
    free s (inl m) = absurd (some-none refl (sym m.is))
    free s (inr m) = put_other X c s (some v) m.off ∙ w.free s m.was

-- one slot less: nobody else has it on their line
pub world_free : (M : Nodes) (X : Memory) (Γ : ℕ → Ghost) (c : ℕ) → World M X Γ
    → ((s : ℕ) (N : Node) → M s ≡ some N → s ≢ c → (f : Frame) → Memᴰ f (Γ s).line → f.slot ≢ c)
    → World (put M c none) (put X c none) Γ
world_free M X Γ c w off = record { fits = λ s K e. fits s K (put-cases M c none s (some K) e); free = λ s e. free s (eqb s c) refl (put-cases M c none s none e) }
  where
    fits : (s : ℕ) (K : Node) → Met M c none s (some K) ⊎ Passed M c s (some K) → Fit (put X c none) (Γ s) K
    fits s K (inl m) = absurd (some-none refl m.is)
    fits s K (inr m) = fit-frame X (put X c none) (Γ s) K (λ t u e g k q. put_other X c t none (λ z. off s K m.was m.off g k (q ∙ z)) ∙ e) (w.fits s K m.was)

    free : (s : ℕ) (b : Bool) → eqb s c ≡ b → Met M c none s none ⊎ Passed M c s none → put X c none s ≡ none
    free s true q m = rw (eqb-true s c q, put_same X c none) refl
    free s false q (inl m) = absurd (eqb-false s c q m.at)
    free s false q (inr m) = put_other X c s none m.off ∙ w.free s m.was

once-split : (s t : List Shown) → ShownOnce (s ++ t) → ShownOnce t
unfolding ShownOnce
once-split [] t o = o
once-split (x ∷ s) t (h, o) = once-split s t o

on-right : (s t : List Shown) (n : ℕ) → ShownAt n t → ShownAt n (s ++ t)
unfolding ShownAt
on-right [] t n o = o
on-right (x ∷ s) t n o = inr (on-right s t n o)

apart : (s t : List Shown) → ShownOnce (s ++ t) → (n : ℕ) → ShownAt n s → ShownAt n t → ⊥
unfolding ShownOnce ShownAt
apart [] t o n p q = p
apart (x ∷ s) t (h, o) n (inl e) q = h (on-right s t x.number (rw e at q))
apart (x ∷ s) t (h, o) n (inr p) q = apart s t o n p q

-- Demand 3: a worker whose array is the walk to c ++ x, moved over c to c ++ y, has the walk there
pub world-move : (M : Nodes) (X : Memory) (Γ : ℕ → Ghost) → World M X Γ → (s : ℕ) (N : Node) → M s ≡ some N → (c x y : List TrailEntry) → (Γ s).entries ≡ c ++ x
    → install_map y (undo_map x (walk (Γ s))) ≡ install_map (c ++ y) empty_array
world-move M X Γ w s N e c x y q =
    rw (q, install_map-append c x empty_array, undo_map-install_map A x (install_map c empty_array) (once-split (shown_entries A.number c) (shown_entries A.number x) once) clear) (sym (install_map-append c y empty_array))
  where
    f : Fit X (Γ s) N
    f = w.fits s N e

    A : Place
    A = place_of X (Γ s)

    once : ShownOnce (shown_entries A.number c ++ shown_entries A.number x)
    once = rw (← (shown_entries-append A c x), ← (ap (shown_entries A.number) q), f.entries) (conditionals_shown-once N.bindings f.sane.bound_once)

    clear : (n : ℕ) → ShownAt n (shown_entries A.number x) → install_map c empty_array n ≡ unbound_word
    clear n o = install_map-elsewhere A c empty_array n (λ p. apart (shown_entries A.number c) (shown_entries A.number x) once n p o)

-- Demand 3: each word of the walk is the node's conditional binding of that number, and unbound elsewhere
pub world-array : (M : Nodes) (X : Memory) (Γ : ℕ → Ghost) → World M X Γ → (s : ℕ) (N : Node) → M s ≡ some N → (n : ℕ)
    → value (number_of X) (walk (Γ s) n) ≡ lookup (conditionals N.bindings) n
unfolding value
world-array M X Γ w s N e n =
    let f = w.fits s N e in
    let o : ShownOnce (shown_entries (number_of X) (Γ s).entries) = rw f.entries (conditionals_shown-once N.bindings f.sane.bound_once) in
    install_map-exact (place_of X (Γ s)) (Γ s).entries empty_array n o refl ∙ ap (λ (l : List Shown). lookup_shown l n) f.entries ∙ lookup_shown-conditionals N.bindings n

pub line-off : (T : Search) (S : Slots T) (Γ : ℕ → Ghost) → Shape T S → Lineage T S Γ → (c : ℕ) → c ≢ 0
    → ((t : ℕ) (f : UsedSlot T) → S t ≡ some f → t ≢ 0 → f.parent ≡ c → ⊥)
    → (n s : ℕ) (e : UsedSlot T) → S s ≡ some e → length e.path ≤ n → s ≢ c → (f : Frame) → Memᴰ f (Γ s).line → f.slot ≢ c
line-off T S Γ sh li c nz kids zero s e u l off f m = go (eqb s 0) refl
  where
    go : (b : Bool) → eqb s 0 ≡ b → f.slot ≢ c
    go true q = λ z. nz (sym z ∙ li.top f (rw (eqb-true s 0 q) at m))
    go false q = let p = sh.parents s e u (eqb-false s 0 q) in absurd (omega (arith, ap length p.path, length-append p.up.path (p.k ∷ [])))
line-off T S Γ sh li c nz kids (suc n) s e u l off f m = go (eqb s 0) refl (λ g v h o k. line-off T S Γ sh li c nz kids n e.parent g v h o f k)
  where
    go : (b : Bool) → eqb s 0 ≡ b → ((g : UsedSlot T) → S e.parent ≡ some g → length g.path ≤ n → e.parent ≢ c → Memᴰ f (Γ e.parent).line → f.slot ≢ c)
        → f.slot ≢ c
    go true q ih = λ z. nz (sym z ∙ li.top f (rw (eqb-true s 0 q) at m))
    go false q ih = which (li.up s e u (eqb-false s 0 q) f m)
      where
        which : (f.slot ≡ s) ⊎ Memᴰ f (Γ e.parent).line → f.slot ≢ c
        which (inl z) = λ y. off (sym z ∙ y)
        which (inr k) =
            let p = sh.parents s e u (eqb-false s 0 q) in
            ih p.up p.used (omega (arith, ap length p.path, length-append p.up.path (p.k ∷ []))) (λ y. kids s e u (eqb-false s 0 q) y) k
