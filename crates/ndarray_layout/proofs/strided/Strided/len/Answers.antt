-- The size of a view fits.
use Rattle.std.proofs.Common.{◌<◌, ◌^◌, sym, subst}
use Rattle.nd_base.specs.Size.{size}
use Rattle.ndarray_layout.proofs.Laws.View.{size_fits}
use Rattle.ndarray_layout.proofs.strided.Strided.len.Goals as goal

pub product-requires : goal.product-requires
product-requires g c = subst (λ lens. size lens < 2 ^ 64) (sym c.slice.ensures.list) (size_fits c.self.invariant)
