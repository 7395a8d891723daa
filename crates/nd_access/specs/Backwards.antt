-- A row whose items lie backwards: as a slice they are in the other order.
use Rattle.std.specs.Prelude.{◌≡◌, negsuc, Bool, true, false, refl}
use Rattle.std.specs.Ordering.{int_eq}
use Rattle.ndarray_layout.specs.declared.Row.{Row}

-- whether each place of a row lies just before the one that it follows
abbrev pub is_backwards : Row → Bool
is_backwards row = int_eq row.stride (negsuc 0)

-- examples
two_from_the_last_one : is_backwards (record { start = 1; stride = negsuc 0; len = 2 }) ≡ true
two_from_the_last_one = refl

one_between_them : is_backwards (record { start = 2; stride = negsuc 1; len = 2 }) ≡ false
one_between_them = refl
