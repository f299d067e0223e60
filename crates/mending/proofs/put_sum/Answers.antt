-- The number is put; where it is the one that was there nothing is listed, and else the change behind the others.
use Rattle.std.proofs.Common.{ℕ, ◌+◌, ap, ◌∙◌, arith}
use Rattle.mending.specs.Sums.{renewed}
use Rattle.mending.proofs.Putting.{put_same, put_changed}
use Rattle.mending.proofs.put_sum.Goals as goal

pub returns-then-f : goal.returns-then-f
returns-then-f c =
    let a = c.args in
    put_same a.k a.which a.start a.f a.changes a.out.now _ a.rows.now
    (c.put_number.ensures ∙ ap (λ (x : ℕ). renewed (a.start + a.f.at) x a.out.now) (omega arith)) (omega arith)

pub returns : goal.returns
returns c =
    let a = c.args in
    put_changed a.k a.which a.start a.f a.changes a.out.now _ a.rows.now c.put_number.ensures _ (λ e. omega arith)
    c.put_at.ensures
