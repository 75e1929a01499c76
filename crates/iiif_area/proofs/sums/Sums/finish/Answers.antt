use Rattle.std.proofs.Common.{◌≡◌, ◌+◌, ◌-◌, ◌*◌, ◌≤◌, map, take, drop, length, arith, ap, ◌∙◌, sym, refl}
use Rattle.std.proofs.Math.Nat.{mul-le-mul_left}
use Rattle.iiif_pixel.specs.Geometry.{top_of}
use Rattle.iiif_pixel.specs.Depths.{values_of}
use Rattle.iiif_pixel.specs.Picture.{dim_of, row_of}
use Rattle.iiif_pixel.specs.Scaling.{whole_of}
use Rattle.iiif_pixel.specs.declared.geometry.Dim.{Dim}
use Rattle.iiif_pixel.proofs.SampleLists.{samples_of_none, samples_of_more, length-samples_of}
use Rattle.iiif_area.specs.Grid.{Grid, average_within, finished, sums_at}
use Rattle.iiif_area.proofs.FinishLaws.{made_at, made_row, finished-scaled}
use Rattle.iiif_area.proofs.SumsSeen.{seen, row_fits_in, rows_fit_in}
use Rattle.iiif_area.proofs.sums.Sums.finish.Goals as goal

pub overflow_mul-run-2 : goal.overflow_mul-run-2
overflow_mul-run-2 c =
    let s = seen c.self.inside c.args.self.now c.self.view_is c.self.invariant in
    omega (
      arith,
      rows_fit_in c.self.inside c.channels-channels.result c.args.rect c.self.invariant c.channels-channels.ensures
          (rw s.rect c.requires.inside),
    )

pub overflow_mul-from-in-loop-y : goal.overflow_mul-from-in-loop-y
overflow_mul-from-in-loop-y c =
    let s = seen c.self.inside c.args.self.now c.self.view_is c.self.invariant in
    let row = row_fits_in c.self.inside c.channels-channels.result c.args.rect c.loop-y.y c.self.invariant c.channels-channels.ensures
    (rw s.rect c.requires.inside) (omega arith) in
    omega arith

pub overflow_mul-from : goal.overflow_mul-from
overflow_mul-from c =
    let s = seen c.self.inside c.args.self.now c.self.view_is c.self.invariant in
    let row = row_fits_in c.self.inside c.channels-channels.result c.args.rect c.loop-y.y c.self.invariant c.channels-channels.ensures
    (rw s.rect c.requires.inside) (omega arith) in
    omega arith

pub overflow_add-from-in-loop-y : goal.overflow_add-from-in-loop-y
overflow_add-from-in-loop-y c =
    let s = seen c.self.inside c.args.self.now c.self.view_is c.self.invariant in
    let row = row_fits_in c.self.inside c.channels-channels.result c.args.rect c.loop-y.y c.self.invariant c.channels-channels.ensures
    (rw s.rect c.requires.inside) (omega arith) in
    omega arith

pub overflow_add-from-in-loop-y-2 : goal.overflow_add-from-in-loop-y-2
overflow_add-from-in-loop-y-2 c =
    let s = seen c.self.inside c.args.self.now c.self.view_is c.self.invariant in
    let row = row_fits_in c.self.inside c.channels-channels.result c.args.rect c.loop-y.y c.self.invariant c.channels-channels.ensures
    (rw s.rect c.requires.inside) (omega arith) in
    omega arith

pub slice_bounds-push_averages-end : goal.slice_bounds-push_averages-end
slice_bounds-push_averages-end c =
    let s = seen c.self.inside c.args.self.now c.self.view_is c.self.invariant in
    let row = row_fits_in c.self.inside c.channels-channels.result c.args.rect c.loop-y.y c.self.invariant c.channels-channels.ensures
    (rw s.rect c.requires.inside) (omega arith) in
    omega (arith, row, c.deref.ensures.len)

pub loop-y-init : goal.loop-y-init
loop-y-init c = record {
  values = c.in_ok-samples.ensures.values ∙ sym (samples_of_none _ _ _);
  depth = c.in_ok-samples.ensures.depth;
  capacity = c.in_ok-samples.ensures.capacity;
}

pub offset_bounds-deref-from : goal.offset_bounds-deref-from
offset_bounds-deref-from c =
    let s = seen c.self.inside c.args.self.now c.self.view_is c.self.invariant in
    let row = row_fits_in c.self.inside c.channels-channels.result c.args.rect c.loop-y.y c.self.invariant c.channels-channels.ensures
    (rw s.rect c.requires.inside) (omega arith) in
    omega (arith, row, c.deref.type_inv, ap length c.deref.ensures.value)

pub push_averages-requires-clause-room : goal.push_averages-requires-clause-room
push_averages-requires-clause-room c =
    let r = c.args.rect in
    let n = c.channels-channels.result in
    let s = seen c.self.inside c.args.self.now c.self.view_is c.self.invariant in
    let ch : n ≡ c.args.self.now.channels = c.channels-channels.ensures ∙ s.channels in
    let count : length (values_of c.loop-y.samples) ≡ r.w * c.loop-y.y * n =
    rw ch (ap length c.loop-y.invariant.values ∙ length-samples_of _ _ _ _) in
    let more : r.w * n * (c.loop-y.y + 1) ≤ r.w * n * r.h = mul-le-mul_left (r.w * n) (omega arith) in
    omega arith

pub loop-y-preserved : goal.loop-y-preserved
loop-y-preserved c =
    let r = c.args.rect in
    let q = c.self.inside.rect in
    let g = c.args.self.now in
    let y = c.loop-y.y in
    let n = c.channels-channels.result in
    let run = r.w * n in
    let from = ((r.y - q.y + y) * q.w + (r.x - q.x)) * n in
    let top = top_of c.args.depth in
    let s = seen c.self.inside g c.self.view_is c.self.invariant in
    let ch : n ≡ g.channels = c.channels-channels.ensures ∙ s.channels in
    let long : from + run - from ≡ run = omega arith in
    let row : map (average_within (c.from.result * c.from-2.result) top) (take (from + run - from) (drop from c.deref.result.now)) ≡ row_of
    r.w g.channels (λ x k. made_at g c.args.region top r x y k) =
    rw (long, c.deref.ensures.value, s.sums, c.from.ensures, c.from-2.ensures, ch, s.rect)
    (made_row g c.args.region top r y c.requires.inside (omega arith) s.count) in
    record {
      values = rw (c.push_averages.ensures.values, c.loop-y.invariant.depth, c.loop-y.invariant.values, row)
          (sym (samples_of_more r.w y g.channels (made_at g c.args.region top r)));
      depth = c.push_averages.ensures.depth ∙ c.loop-y.invariant.depth;
      capacity = c.push_averages.ensures.capacity ∙ c.loop-y.invariant.capacity;
    }

pub from_samples-requires : goal.from_samples-requires
from_samples-requires c =
    let s = seen c.self.inside c.args.self.now c.self.view_is c.self.invariant in
    let done : c.loop-y.y ≡ c.args.rect.h = omega arith in
    rw (c.loop-y.invariant.values, s.channels, done, c.dim.ensures) (length-samples_of _ _ _ _)

pub returns-clause-samples : goal.returns-clause-samples
returns-clause-samples c =
    let s = seen c.self.inside c.args.self.now c.self.view_is c.self.invariant in
    let done : c.loop-y.y ≡ c.args.rect.h = omega arith in
    rw (c.from_samples.ensures, c.loop-y.invariant.depth, c.loop-y.invariant.values, s.channels, done, c.dim.ensures) refl

pub returns-clause-scaled : goal.returns-clause-scaled
returns-clause-scaled c = λ p size whole top dims lies e.
    let r = c.args.rect in
    let sums = sums_at c.args.self.now.rect p size (whole_of (dim_of p)) in
    returns-clause-samples c
    ∙ ap (λ (g : Grid). finished g c.args.region (top_of c.args.depth) r) e
    ∙ ap (λ (d : Dim). finished sums d (top_of c.args.depth) r) (sym dims)
    ∙ ap (λ t. finished sums (dim_of p) t r) (sym top)
    ∙ finished-scaled c.args.self.now.rect r p size whole c.requires.inside lies
