-- `normal_of` meets its contract.
use Rattle.meaning_numbers.proofs.Prelude.{◌≡◌, ◌∙◌, ◌-◌, ◌<◌, ◌≤◌, ℕ, arith, pos, neg_ℤ, ◌-ℤ◌, w32, of_z, to_z, to_z-of_z, to_z_pos, zmach32, z-sub, z-neg, zarith}
use mir.Val.{SFits}
use Rattle.distance_normal.specs.Normal.{CutOf}
use Rattle.distance_normal.proofs as own
use own.Normal.{cut_small, normal-up, normal-down, diff}
use Rattle.distance_normal.proofs.normal_of.Goals as goal

-- the cut of a size in the limits is small, and the machine reads it as itself
small : {a d t : ℕ} → 0 < a → CutOf a d t → d ≤ 20480000 → t ≤ 2048000000
small some cut le = omega (arith, cut_small some cut)

read : {t : ℕ} → t ≤ 2048000000 → to_z w32 t ≡ pos t
read {t} le = to_z_pos w32 t (omega arith)

opposite : (t : ℕ) → t ≤ 2048000000 → to_z w32 (of_z w32 (pos 0 -ℤ to_z w32 t)) ≡ neg_ℤ (pos t)
opposite t le =
    let n : pos 0 -ℤ pos t ≡ neg_ℤ (pos t) = omega (zarith, z-sub (pos 0) (pos t), z-neg (pos t)) in
    let f : SFits w32 (pos 0 -ℤ pos t) = omega (zmach32, z-sub (pos 0) (pos t)) in
    rw (read le) (to_z-of_z w32 _ f ∙ n)

pub overflow_cast-t : goal.overflow_cast-t
overflow_cast-t c = omega (zmach32, small c.requires.a_nonzero c.cut_of-t.ensures (omega arith))

pub returns-then-x-p : goal.returns-then-x-p
returns-then-x-p c =
    let a = c.args in
    let e : c.abs_diff.result ≡ a.p - a.x = omega arith in
    opposite _ (small c.requires.a_nonzero c.cut_of-t.ensures (omega arith)) ∙ normal-down _ (diff a.x a.p) c.requires.a_nonzero c.if-x-p.true (rw e at c.cut_of-t.ensures)

pub returns-else-x-p : goal.returns-else-x-p
returns-else-x-p c =
    let a = c.args in
    let e : c.abs_diff.result ≡ a.x - a.p = omega arith in
    read (small c.requires.a_nonzero c.cut_of-t.ensures (omega arith)) ∙ normal-up _ (diff a.x a.p) c.requires.a_nonzero c.if-x-p.false (rw e at c.cut_of-t.ensures)
