-- The beam goes to a point that lies on the field, and to no other.
use Rattle.std.proofs.Common.{◌≡◌, Bool, true, false, cond, Ok, Err, ap}
use Rattle.geometry.specs.declared.field.Point.{Point}
use Rattle.statement.specs.declared.layout.Trace.{Trace}
use Rattle.run.specs.declared.types.Fault.{Fault}
use Rattle.run.specs.declared.types.Fault.TheVariants as fault
use Rattle.run.specs.Inks.{Ink, Drawn, good, stopped, and_then, beam_at, on_field, leave, go}
use Rattle.pen.specs.Views.{landing}

module _ (p : Point) where
  same_by : (b : Bool) (end : Point) → Ok end ≡ cond b (Ok p) (Err fault.OffField) → end ≡ p
  same_by true end h = cc
  same_by false end h = cc

  strays_by : (b : Bool) (e : Fault) (d : Drawn) (i : Ink) → Err e ≡ cond b (Ok p) (Err fault.OffField) → stopped e i ≡ cond b d (stopped fault.OffField i)
  strays_by true e d i h = cc
  strays_by false e d i h = let q : e ≡ fault.OffField = cc in ap (λ z. stopped z i) q

  pub goes : (t : Trace) (end : Point) (i : Ink) → Ok end ≡ landing p → go t end i ≡ go t p i
  goes t end i h = ap (λ z. go t z i) (same_by (on_field p) end h)

  pub strays : (t : Trace) (e : Fault) (i : Ink) → Err e ≡ landing p → stopped e i ≡ go t p i
  strays t e i h = strays_by (on_field p) e (and_then (leave t p i) (λ j. good (beam_at p j))) i h
