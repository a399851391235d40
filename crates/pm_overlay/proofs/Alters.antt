-- One change of a tree after another.
use Rattle.std.proofs.Common.{Option, Some, None, refl, sym, ◌∙◌, subst}
use Rattle.pm_host.specs.World.{World}
use Rattle.pm_overlay.specs.Base.{Holds, Stays}
use Rattle.pm_overlay.specs.Changes.{over}
use Rattle.pm_overlay.specs.Steps.{Layer, Alters}

pub follows : (P : World → Type 0) (a b : Option World) → Stays a b → Holds a P → Holds b P
follows P None None s h = tt
follows P None (Some w) s h = absurd s
follows P (Some v) None s h = tt
follows P (Some v) (Some w) s h = subst P (sym s) h

pub stays_on : (a b c : Option World) → Stays a b → Stays b c → Stays a c
stays_on None None None s t = tt
stays_on None None (Some x) s t = absurd t
stays_on None (Some w) c s t = absurd s
stays_on (Some v) None None s t = tt
stays_on (Some v) None (Some x) s t = absurd t
stays_on (Some v) (Some w) None s t = tt
stays_on (Some v) (Some w) (Some x) s t = t ∙ s

pub stays_same : (a : Option World) → Stays a a
stays_same None = tt
stays_same (Some v) = refl

pub holds_by : (P Q : World → Type 0) (a : Option World) → Holds a P → ((w : World) → P w → Q w) → Holds a Q
holds_by P Q None h f = tt
holds_by P Q (Some w) h f = f w h

pub holds_both : (P Q R : World → Type 0) (a : Option World) → Holds a P → Holds a Q → ((w : World) → P w → Q w → R w) → Holds a R
holds_both P Q R None h k f = tt
holds_both P Q R (Some w) h k f = f w h k

pub holds_always : (P : World → Type 0) (a : Option World) → ((w : World) → P w) → Holds a P
holds_always P None f = tt
holds_always P (Some w) f = f w

-- one after the other
pub both : (P Q R : World → World → World → Type 0) (a b c : Layer) → Alters P a b → Alters Q b c → ((base v w x : World) → P base v w → Q base w x → R base v x) → Alters R a c
both P Q R a b c p q f = record {
  base = stays_on a.base b.base c.base p.base q.base;
  does =
      holds_both (λ w. P w (over a.changes a.slept w) (over b.changes b.slept w)) (λ w. Q w (over b.changes b.slept w) (over c.changes c.slept w))
      (λ w. R w (over a.changes a.slept w) (over c.changes c.slept w)) c.base (follows (λ w. P w (over a.changes a.slept w) (over b.changes b.slept w)) b.base c.base q.base p.does) q.does
      (λ w h k. f w (over a.changes a.slept w) (over b.changes b.slept w) (over c.changes c.slept w) h k);
}

pub alters_by : (P R : World → World → World → Type 0) (a b : Layer) → Alters P a b → ((base v w : World) → P base v w → R base v w) → Alters R a b
alters_by P R a b p f = record {
  base = p.base;
  does =
      holds_by (λ w. P w (over a.changes a.slept w) (over b.changes b.slept w)) (λ w. R w (over a.changes a.slept w) (over b.changes b.slept w)) b.base p.does
      (λ w h. f w (over a.changes a.slept w) (over b.changes b.slept w) h);
}

-- what holds of the tree with its changes, too
pub alters_with : (P : World → World → World → Type 0) (Q : World → World → Type 0) (R : World → World → World → Type 0) (a b : Layer) → Alters P a b
    → Holds a.base (λ w. Q w (over a.changes a.slept w)) → ((base v w : World) → Q base v → P base v w → R base v w) → Alters R a b
alters_with P Q R a b p h f = record {
  base = p.base;
  does =
      holds_both (λ w. Q w (over a.changes a.slept w)) (λ w. P w (over a.changes a.slept w) (over b.changes b.slept w)) (λ w. R w (over a.changes a.slept w) (over b.changes b.slept w)) b.base
      (follows (λ w. Q w (over a.changes a.slept w)) a.base b.base p.base h) p.does (λ w q k. f w (over a.changes a.slept w) (over b.changes b.slept w) q k);
}
