-- The public calls: what each answers, and every lent byte after it, for a payload buffer of C bytes and a map of M.
-- Document 01's capacity and the map's size stand here.
use Rattle.std.specs.Prelude.{◌≡◌, Bool, ◌&&◌, cond, List, ℕ, ◌*◌, length, take, leb, eqb, Result}
use Rattle.pkt.specs.Answers.{Answer, refused, gives, mapped, most_ip, says}
use Rattle.pkt.specs.declared.refusal.Refusal.{Refusal}
use Rattle.inspect.specs.declared.header.IpRead.{IpRead}
use Rattle.assembly.specs.declared.Key.{Key}
use Rattle.assembly.specs.declared.Outcome.TheVariants.{Complete}
use Rattle.assembly.specs.declared.Rec.{Rec}
use Rattle.assembly.specs.declared.Taken.{Taken}
use Rattle.assembly.specs.Assembly.{State, opened, step, record_valid}
use Rattle.assembly.specs.View.{record_of, piece}
use Rattle.assembly.specs.Answers.{payload_after, map_after, Steps, Standing, standing, standing_of}
use Rattle.assembly.specs.Carried.{fit_answer, piece_answer}

-- "a lent payload buffer of exactly 65,515 bytes": as many as an IPv4 payload has at most
abbrev pub capacity : ℕ
capacity = most_ip

-- "a lent map of exactly 1,024 bytes"
abbrev pub map_bytes : ℕ
map_bytes = 1024

-- whether a payload buffer of p bytes and a map of m have the sizes
unfoldable pub sized : ℕ → ℕ → ℕ → ℕ → Bool
sized C M p m = eqb p C && eqb m M

-- 11 is not given: "buffer sizes wrong, or total above 65,515 or floor above 65,513"
unfoldable pub usable : ℕ → ℕ → State → Bool
usable C M s = sized C M (length s.payload) (length s.map) && record_valid s

-- "opening gives only 11, for sizes", and else "zeroes all but the key"
unfoldable pub open_answer : ℕ → ℕ → Key → ℕ → ℕ → Answer State
open_answer C M k p m = cond (sized C M p m) (gives (opened k C M)) (refused 11)

-- d and m are the buffers before, d' and m' after
pub record Opens (C M : ℕ) (k : Key) (d m : List ℕ) (r : Result Rec Refusal) (d' m' : List ℕ) : Type 0 where
  pub answer : says r ≡ mapped record_of (open_answer C M k (length d) (length m))
  pub payload_is : d' ≡ payload_after (open_answer C M k (length d) (length m)) d
  pub map_is : m' ≡ map_after (open_answer C M k (length d) (length m)) m

-- "Assembly 11, 4 (under 20), 5, 6, 4 (total), 7, 8, 9, 10", and else the step by the piece that the packet l carries
unfoldable pub take_answer : ℕ → ℕ → State → List ℕ → Answer State
take_answer C M s l = cond (usable C M s) (mapped (step s) (piece_answer C s.key l)) (refused 11)

-- s is the state before, d and m are the buffers after
abbrev pub Takes : ℕ → ℕ → State → List ℕ → Result Taken Refusal → List ℕ → List ℕ → Type 0
Takes C M s l r d m = Steps (take_answer C M s l) s r d m

-- ---- an assembly of any capacity: that of its payload buffer

-- 11 is not given: the map has a bit for each block of the payload buffer, and pieces within that buffer can lead to so high a total and floor
unfoldable pub ready : State → Bool
ready s = leb (length s.payload) (64 * length s.map) && record_valid s

-- 11, then 9 and 10, and else the step by the piece with the header h and the data b
unfoldable pub put_answer : State → IpRead → List ℕ → Answer State
put_answer s h b = cond (ready s) (mapped (λ g. step s (piece g.off g.mf b)) (fit_answer (length s.payload) 10 (length b) h)) (refused 11)

-- s is the state before, d and m are the buffers after
abbrev pub Puts : State → IpRead → List ℕ → Result Taken Refusal → List ℕ → List ℕ → Type 0
Puts s h b r d m = Steps (put_answer s h b) s r d m

-- ---- how an assembly stands

-- how an assembly stands, or 11
abbrev pub stands_answer : Bool → State → Answer Standing
stands_answer ok s = cond ok (gives (standing_of s)) (refused 11)

abbrev pub any_progress : State → Answer Standing
any_progress s = stands_answer (ready s) s

abbrev pub progress_answer : ℕ → ℕ → State → Answer Standing
progress_answer C M s = stands_answer (usable C M s) s

-- The answer a is complete with the length of d, and d is the first so many bytes of the payload buffer p.
pub record Gathered (a : Answer Standing) (p d : List ℕ) : Type 0 where
  pub told : a ≡ gives (standing Complete (length d))
  pub bytes : take (length d) p ≡ d
