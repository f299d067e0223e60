-- Demand 3 for packets that are built from one payload under one template.
use Rattle.std.specs.Prelude.{◌≡◌, ◌↔◌, true, false, ℕ, ◌+◌, ◌*◌, ◌≤◌, ◌<◌, length}
use mathlib.Core.List.{List, ◌++◌, Memᴰ}
use Rattle.pkt.specs.Answers.{gives}
use Rattle.ezpkt.specs.Build.{start_of, end_of, piece_ip, packet_of}
use Rattle.ezpkt.specs.Ip4.{fragment_of, tail_of, datagram_of}
use Rattle.ezpkt.specs.declared.ip4.Template.{Template}
use Rattle.ezpkt.specs.declared.build.IpPiece.{IpPiece}
use Rattle.inspect.specs.Encoded.{read_of}
use Rattle.assembly.specs.declared.Key.{Key}
use Rattle.assembly.specs.Assembly.{State, opened, step, complete}
use Rattle.assembly.specs.Cut.{requested}
use Rattle.assembly.specs.Carried.{piece_answer}
use Rattle.assembly.specs.Carried as carried
use Rattle.assembly.specs.Calls.{capacity, map_bytes, take_answer, progress_answer, Gathered}
use Rattle.assembly.specs.Packets.{take_all}

-- a request (off, len) under t
abbrev pub ip_piece : Template → ℕ → ℕ → IpPiece
ip_piece t off len = record { template = t; off = off; len = len }

-- "one header with the assembly's key": the key that is read from t's header, whichever piece it heads
unfoldable pub template_key : Template → Key
template_key t = carried.key_of (read_of (piece_ip (ip_piece t 0 0) 20 false))

-- l is what one of the three calls, asked for (off, len), builds from the payload d under t, "none asked for past its end"; any bytes may
-- stand behind it. "`tail` takes len = n; `datagram` carries all with offset 0".
pub data Asked (t : Template) (d l : List ℕ) : ℕ → ℕ → Type 0 where
  by_fragment : (off len : ℕ) (rest : List ℕ) → 8 * off ≤ length d → l ≡ packet_of (fragment_of t off len) d ++ rest → Asked t d l off len
  by_tail : (off : ℕ) (rest : List ℕ) → 8 * off ≤ length d → l ≡ packet_of (tail_of t off (length d)) d ++ rest → Asked t d l off (length d)
  by_datagram : (rest : List ℕ) → l ≡ packet_of (datagram_of t (length d)) d ++ rest → Asked t d l 0 (length d)

abbrev pub BuiltFrom : Template → List ℕ → List ℕ → Type 0
BuiltFrom t d l = (off : ℕ) × (len : ℕ) × Asked t d l off len

-- l is what `fragment` builds where it is asked for a piece past the payload's end
pub record PastEnd (t : Template) (d l : List ℕ) : Type 0 where
  pub off : ℕ
  pub len : ℕ
  pub rest : List ℕ
  pub past : length d < 8 * off
  -- (where it would end above 65,515 it is refused by 10 and spoils nothing)
  pub room : 8 * off ≤ capacity
  pub built : l ≡ packet_of (fragment_of t off len) d ++ rest

-- "If all were built from one payload .. under one header"
abbrev pub AllBuilt : Template → List ℕ → List (List ℕ) → Type 0
AllBuilt t d ls = (l : List ℕ) → Memᴰ l ls → BuiltFrom t d l

-- One of the packets ls was asked for bytes of d among which is the one at place j.
pub record Reached (t : Template) (d : List ℕ) (ls : List (List ℕ)) (j : ℕ) : Type 0 where
  pub packet : List ℕ
  pub off : ℕ
  pub len : ℕ
  pub handed : Memᴰ packet ls
  pub asked : Asked t d packet off len
  pub from : start_of (ip_piece t off len) (length d) ≤ j
  pub till : j < end_of (ip_piece t off len) (length d)

-- "together they cover the payload": by what was asked for
unfoldable pub Cover : Template → List ℕ → List (List ℕ) → Type 0
Cover t d ls = (j : ℕ) → j < length d → Reached t d ls j

-- the state after the packets ls, from an assembly opened for the template's key
abbrev pub after_packets : Template → List (List ℕ) → State
after_packets t ls = take_all capacity map_bytes (opened (template_key t) capacity map_bytes) ls

pub record Reassembles (t : Template) (d : List ℕ) : Type 0 where
  -- Each carries the part of the payload that was asked for,
  pub carries : (l : List ℕ) (off len : ℕ) → Asked t d l off len → piece_answer capacity (template_key t) l ≡ gives (requested d off len)
  -- "all are accepted", whatever was handed in before: the step is that part's,
  pub accepted : (ls : List (List ℕ)) (l : List ℕ) (off len : ℕ) → Asked t d l off len
      → take_answer capacity map_bytes (after_packets t ls) l ≡ gives (step (after_packets t ls) (requested d off len))
  -- "and the state is never spoilt": at the end or on the way.
  pub never_spoilt : (ls later : List (List ℕ)) → AllBuilt t d (ls ++ later) → (after_packets t ls).spoilt ≡ false
  -- "It is complete exactly when at least one was handed in and together they cover the payload,
  pub complete_when : (ls : List (List ℕ)) → AllBuilt t d ls → (complete (after_packets t ls) ≡ true) ↔ ((0 < length ls) × Cover t d ls)
  -- and it then holds that payload": `progress` answers complete with its length, and it is the first so many bytes of the payload buffer.
  pub held : (ls : List (List ℕ)) → AllBuilt t d ls → complete (after_packets t ls) ≡ true
      → Gathered (progress_answer capacity map_bytes (after_packets t ls)) (after_packets t ls).payload d
  -- The demands' story: a piece asked for past the end, and the last piece of the same payload, whichever of them came first.
  pub past_end_spoils : (l m : List ℕ) (off len : ℕ) → PastEnd t d l → Asked t d m off len → length d ≤ 8 * off + 8 * len
      → (ls : List (List ℕ)) → Memᴰ l ls → Memᴰ m ls → (after_packets t ls).spoilt ≡ true
