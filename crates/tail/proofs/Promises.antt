-- The promises of a reader's bytes.
-- Assumes nothing.
use mathlib.Core.Path.{◌≡◌, refl}
use mathlib.Core.Bool.{Bool, true, false, cond}
use Prim.Native.Nat.{◌<◌}
use native.Mathlib.Omega.{arith}
use lib.Dec.{eqb}
use borrow.Author.Tests.{lt-ltb}
use Rattle.basics.specs.Word.{word_at}
use Rattle.basics.proofs.WordLaws.{four_bytes}
use Rattle.packets.specs.declared.Rest.{Rest}
use Rattle.packets.specs.declared.Rest.TheVariants.{Empty, Counted, Masked}
use Rattle.tail.specs.Layout.{kind_of, offset_of, step_of, left_of, rest_of, encoded, decoded, is_reader}
use Rattle.tail.specs.Promises.{ReaderBack, StaysReader}

rest_back : (rest : Rest) → rest_of (kind_of rest) (offset_of rest) (step_of rest) (left_of rest) ≡ rest
unfolding rest_of
rest_back Empty = refl
rest_back (Counted o step n) = refl
rest_back (Masked o bits) = refl

kind-small : (rest : Rest) → kind_of rest < 3
kind-small Empty = omega arith
kind-small (Counted o step n) = omega arith
kind-small (Masked o bits) = omega arith

flag_small : (t : Bool) → cond t 1 0 < 2
flag_small true = omega arith
flag_small false = omega arith

flag-back : (t : Bool) → eqb (cond t 1 0) 1 ≡ t
flag-back true = refl
flag-back false = refl

pub reader-back : ReaderBack
unfolding decoded encoded word_at
reader-back r f =
    let kind = kind-small r.rest in
    let flag = flag_small r.closed in
    rw (
      four_bytes r.word f.word,
      four_bytes r.held f.held,
      four_bytes (cond r.closed 1 0) (omega arith),
      four_bytes (kind_of r.rest) (omega arith),
      four_bytes (offset_of r.rest) f.offset,
      four_bytes (step_of r.rest) f.step,
      four_bytes (left_of r.rest) f.left,
      flag-back r.closed,
      rest_back r.rest,
    )

pub stays-reader : StaysReader
unfolding is_reader encoded word_at
stays-reader r h =
    let kind = kind-small r.rest in
    let flag = flag_small r.closed in
    rw (
      four_bytes r.held (omega arith),
      four_bytes (cond r.closed 1 0) (omega arith),
      four_bytes (kind_of r.rest) (omega arith),
      lt-ltb r.held 4 h,
      lt-ltb (cond r.closed 1 0) 2 flag,
      lt-ltb (kind_of r.rest) 3 kind,
    )
