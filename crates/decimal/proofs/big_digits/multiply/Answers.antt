-- `decimal::multiply` meets its contract: once the digits left are multiplied too, all is right.
-- Laws of Multiplying.
use Prim.Native.Nat.{◌-◌}
use mathlib.Core.Path.{refl}
use native.Mathlib.Omega.{arith}
use lib.ListN.{get_or, length-set}
use Rattle.decimal.proofs.big_digits.Multiplying.{half_start, half_step, half_end, product_small}
use Rattle.decimal.proofs.big_digits.multiply.Goals as goal

pub loop-i-init : goal.loop-i-init
loop-i-init _ = (refl, omega arith, λ n e. half_start _ _ n e)

pub overflow_mul-t : goal.overflow_mul-t
overflow_mul-t c =
    let l = c.loop-i in
    let m = c.args.m in
    let small = product_small (get_or l.out (l.i - 1) 0) m c.requires in
    omega arith

pub overflow_add-t : goal.overflow_add-t
overflow_add-t c =
    let l = c.loop-i in
    let m = c.args.m in
    let small = product_small (get_or l.out (l.i - 1) 0) m c.requires in
    omega arith

pub loop-i-preserved : goal.loop-i-preserved
loop-i-preserved c =
    let l = c.loop-i in
    let m = c.args.m in
    let small = product_small (get_or l.out (l.i - 1) 0) m c.requires in
    (simp length-set l.invariant.0, omega arith, λ n e. half_step m l.out l.i l.carry _ n _ (omega arith) (omega arith) l.invariant.0 refl (l.invariant.2 n e))

pub shape_of-out : goal.shape_of-out
shape_of-out c = c.loop-i.invariant.0

pub returns : goal.returns
returns c = λ n e. half_end _ _ _ _ _ n (omega arith) (c.loop-i.invariant.2 n e)
