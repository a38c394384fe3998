-- The line of a slot comes from its parent's, whatever the slots go through: the load, a count raised, a child added, a slot freed.
-- Serves rules 4 and 7 of document 01's steps: a freed slot stands on nobody else's line. Assumes nothing.
use mathlib.Core.List.{Memᴰ}
use Rattle.std.specs.Prelude.{◌≢◌, ◌⊎◌, ◌≡◌, ℕ}
use Rattle.std.proofs.Common.{inl, inr, ◌∙◌, ap, sym}
use Rattle.std.proofs.Math.Option.{none, some}
use Rattle.std.proofs.Math.Path.{refl}
use Rattle.model.specs.Machine.{Slots, UsedSlot, child_slot, free, grow, load, raise, root_slot}
use Rattle.model.specs.Maps.{put}
use Rattle.model.specs.Search.{Search}
use Rattle.theory.proofs.Kit.Maps.{Met, Passed, put-cases, put_other, put_same, some-none}
use Rattle.theory.specs.Memory.Fit.{Ghost}
use Rattle.theory.specs.Memory.Lines.{Frame}
use Rattle.theory.specs.Memory.World.{Lineage}
use Rattle.theory.proofs.Tree.Shapes.{raise-grows}
use Rattle.theory.specs.Tree.Slots.{Earlier, Shape}

module _ (T : Search) where
  pub lineage-load : (Γ : ℕ → Ghost) → ((f : Frame) → Memᴰ f (Γ 0).line → f.slot ≡ 0) → Lineage T (load T).slots Γ
  unfolding load
  lineage-load Γ h = record { top = h; up = λ s e u z. absurd (none_other s e z (put-cases (λ _. none) 0 (some (root_slot T)) s (some e) u)) }
    where
      none_other : (s : ℕ) (e : UsedSlot T) → s ≢ 0 → Met (λ _. none) 0 (some (root_slot T)) s (some e) ⊎ Passed (λ _. none) 0 s (some e) → ⊥
      none_other s e z (inl m) = z m.at
      none_other s e z (inr m) = some-none refl (sym m.was)

  pub lineage-raise : (S : Slots T) (Γ : ℕ → Ghost) (s : ℕ) (e : UsedSlot T) → S s ≡ some e → Lineage T S Γ → Lineage T (raise T S s e) Γ
  lineage-raise S Γ s e here l = record { top = l.top; up = λ t f u z. go t f z ((raise-grows T S s e here).back t f u) }
    where
      go : (t : ℕ) (f : UsedSlot T) → t ≢ 0 → Earlier T S t f → (g : Frame) → Memᴰ g (Γ t).line → (g.slot ≡ t) ⊎ Memᴰ g (Γ f.parent).line
      go t f z o g m = rw o.grown.parent (l.up t o.ent o.used z g m)

  pub lineage-free : (S : Slots T) (Γ : ℕ → Ghost) (c : ℕ) → Lineage T S Γ → Lineage T (free T S c) Γ
  unfolding free
  lineage-free S Γ c l = record { top = l.top; up = λ t f u z. go t f z (put-cases S c none t (some f) u) }
    where
      go : (t : ℕ) (f : UsedSlot T) → t ≢ 0 → Met S c none t (some f) ⊎ Passed S c t (some f) → (g : Frame) → Memᴰ g (Γ t).line → (g.slot ≡ t) ⊎ Memᴰ g (Γ f.parent).line
      go t f z (inl m) = absurd (some-none refl m.is)
      go t f z (inr m) = l.up t f m.was z

  -- the child's line is its parent's with its own frame behind it
  pub lineage-grow : (S : Slots T) (Γ : ℕ → Ghost) (s : ℕ) (e : UsedSlot T) (c : ℕ) (N : T.Node) (G : Ghost) → Shape T S → S s ≡ some e → S c ≡ none
      → ((f : Frame) → Memᴰ f G.line → (f.slot ≡ c) ⊎ Memᴰ f (Γ s).line) → Lineage T S Γ → Lineage T (grow T S s e c N) (put Γ c G)
  unfolding grow
  lineage-grow S Γ s e c N G sh here room own l =
      record { top = λ f m. l.top f (rw (put_other Γ c 0 G root-stays) at m); up = λ t f u z. go t f z (put-cases (raise T S s e) c (some (child_slot T s e N)) t (some f) u) }
    where
      root-stays : 0 ≢ c
      root-stays q = some-none sh.root-used (ap S q ∙ room)

      stays : (t : ℕ) (f : UsedSlot T) → S t ≡ some f → t ≢ c
      stays t f u q = some-none u (ap S q ∙ room)

      old : (t : ℕ) (f : UsedSlot T) → t ≢ 0 → Earlier T S t f → (g : Frame) → Memᴰ g (put Γ c G t).line → (g.slot ≡ t) ⊎ Memᴰ g (put Γ c G f.parent).line
      old t f z o g m =
          let p = sh.parents t o.ent o.used z in
          rw (o.grown.parent, put_other Γ c o.ent.parent G (stays o.ent.parent p.up p.used)) (l.up t o.ent o.used z g (rw (put_other Γ c t G (stays t o.ent o.used)) at m))

      new : (t : ℕ) (f : UsedSlot T) → t ≡ c → f ≡ child_slot T s e N → (g : Frame) → Memᴰ g (put Γ c G t).line → (g.slot ≡ t) ⊎ Memᴰ g (put Γ c G f.parent).line
      new t f q h g m = rw (h, put_other Γ c s G (stays s e here), q) (own g (rw (q, put_same Γ c G) at m))

      go : (t : ℕ) (f : UsedSlot T) → t ≢ 0 → Met (raise T S s e) c (some (child_slot T s e N)) t (some f) ⊎ Passed (raise T S s e) c t (some f)
          → (g : Frame) → Memᴰ g (put Γ c G t).line → (g.slot ≡ t) ⊎ Memᴰ g (put Γ c G f.parent).line
      go t f z (inl m) = new t f m.at (let h : f ≡ child_slot T s e N = cc m.is in h)
      go t f z (inr m) = old t f z ((raise-grows T S s e here).back t f m.was)
