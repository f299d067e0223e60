use mathlib.Core.Path.{ap, ◌∙◌}
use Prim.Native.Nat.{ℕ, ◌+◌, ◌≤◌}
use native.Mathlib.Omega.{arith}
use lib.ListN.{length, set}
use borrow.Author.Rules.{rules}
use Rattle.pieces.proofs.Putting.{put_size, put_output}
use Rattle.pieces.proofs.put.Goals as goal

pub overflow_add-end : goal.overflow_add-end
overflow_add-end c =
    let a = c.args in
    let e = put_size a.template a.r a.i a.at a.payload.now a.out.now (length a.ends.now) c.requires _ _ c.fragment.ensures in
    let room : a.at + c.unwrap_or-size.result ≤ length a.out.now = omega (arith, e, c.unwrap_or-size.ensures, c.requires.room_for) in
    search rules

pub returns : goal.returns
returns c =
    let a = c.args in
    let call = c.fragment.ensures in
    let e = c.unwrap_or-size.ensures ∙ put_size a.template a.r a.i a.at a.payload.now a.out.now (length a.ends.now) c.requires _ _ call in
    record {
      is_end = ap (λ (k : ℕ). a.at + k) e;
      output = put_output a.template a.r a.i a.at a.payload.now a.out.now (length a.ends.now) c.requires _ _ call;
      ends = ap (λ (k : ℕ). set a.ends.now a.i (a.at + k)) e;
    }
