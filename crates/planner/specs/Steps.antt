-- The steps of the check and of the planner: what is known after so many requests of a list, and what is decided before one is written.
use Rattle.std.specs.Prelude.{ℕ, zero, suc, ◌-◌, ◌*◌, ◌%◌, Bool, true, false, not, ◌&&◌, ◌||◌, cond, List, [], ◌∷◌, ◌++◌, ltb, leb, eqb}
use Rattle.ezpkt.specs.Build.{start_at, end_at}
use Rattle.pieces.specs.Fragments.{size_for}
use Rattle.pieces.specs.declared.BlockRequest.{BlockRequest}
use Rattle.planner.specs.declared.Look.{Look}
use Rattle.planner.specs.declared.Job.{Job}
use Rattle.planner.specs.Cutting.{length_at}
use Rattle.planner.specs.Plan.{mf_clear}

-- before the first request: the bytes before place `next` were carried; whether all was good so far, and whether the one before has MF clear
abbrev pub look_none : ℕ → ℕ → Look
look_none n m = record { n = n; m = m; next = 0; good = true; ended = false }

-- whether a request may stand next
abbrev pub may_follow : Look → BlockRequest → Bool
may_follow k r =
    not k.ended
    && (leb (8 * r.off) k.n
    && (leb (size_for k.n r) k.m
    && (leb (end_at r.off r.len k.n) (start_at r.off k.n) || eqb (start_at r.off k.n) k.next)))

-- what is known with one request more, and with all of a list
abbrev pub look_with : Look → BlockRequest → Look
look_with k r =
    record {
      n = k.n;
      m = k.m;
      next = cond (ltb (start_at r.off k.n) (end_at r.off r.len k.n)) (end_at r.off r.len k.n) k.next;
      good = k.good && may_follow k r;
      ended = mf_clear k.n r;
    }

unfoldable pub look_in : Look → List BlockRequest → Look
look_in k [] = k
look_in k (r ∷ rs) = look_in (look_with k r) rs

-- the check's decision: all was good, the last has MF clear, and every byte was carried
abbrev pub complete : Look → Bool
complete k = k.good && (k.ended && eqb k.next k.n)

unfoldable pub is_plan : ℕ → ℕ → List BlockRequest → Bool
is_plan n m l = complete (look_in (look_none n m) l)

-- ---- the planner

-- the request at index k, where so many are written (the offsets of these are below 65,536)
abbrev pub nth_of : Job → ℕ → BlockRequest
nth_of j k = record { off = k % 8192 * j.blocks % 65536; len = length_at j.blocks (j.count - 1 - k) (k % 8192 * j.blocks % 65536) j.n % 65536 }

-- the first k of them
abbrev pub firsts : Job → ℕ → List BlockRequest
firsts j zero = []
firsts j (suc k) = firsts j k ++ (nth_of j k ∷ [])
