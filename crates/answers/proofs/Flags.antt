-- A flag as the code casts it. Assumes nothing.
use mathlib.Core.Path.{◌≡◌, refl}
use mathlib.Core.Bool.{Bool, true, false}
use mir.Val.{bool_byte}
use Rattle.held.specs.Held.{flag_of}

pub flag_byte : (b : Bool) → flag_of b ≡ bool_byte b
flag_byte true = refl
flag_byte false = refl
