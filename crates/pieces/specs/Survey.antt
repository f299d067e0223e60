-- What the call finds in a list before it writes, and what one packet more asks and leaves.
use Rattle.std.specs.Prelude.{ℕ, ◌+◌, ◌-◌, ◌<◌, ◌≤◌, cond, ◌≡◌, Option, Some, None, List, ◌++◌, length, take, drop, set, ltb}
use Rattle.pkt.specs.Answers.{most_ip, most_offset}
use Rattle.pkt.specs.Written.{written}
use Rattle.ezpkt.specs.Build.{packet_of, is_bad_offset}
use Rattle.ezpkt.specs.Ip4.{fragment_of}
use Rattle.ezpkt.specs.declared.ip4.Template.{Template}
use Rattle.pieces.specs.declared.BlockRequest.{BlockRequest}
use Rattle.pieces.specs.Fragments.{size_for, sum_of, first_bad}

-- the index of the first bad request, where there is one
abbrev pub bad_in : List BlockRequest → Option ℕ
bad_in rs = cond (ltb (first_bad rs) (length rs)) (Some (first_bad rs)) None

-- what the packets for n bytes leave of so much room, where there is room for them
abbrev pub left_of : ℕ → ℕ → List BlockRequest → Option ℕ
left_of n room rs = cond (ltb room (sum_of n rs)) None (Some (room - sum_of n rs))

-- the index of the first bad request, where this one is looked at, at index i, behind those before
unfoldable pub first_after : Option ℕ → ℕ → BlockRequest → Option ℕ
first_after (Some k) i r = Some k
first_after None i r = cond (is_bad_offset r.off) (Some i) None

-- what a packet of so many bytes leaves of what was left, if there was room and is room for it
unfoldable pub left_after : Option ℕ → ℕ → Option ℕ
left_after None s = None
left_after (Some l) s = cond (ltb l s) None (Some (l - s))

-- Nothing stops the call: the payload is short enough, no offset is bad, and there is room for the packets and a place for each end
pub record Fits (rs : List BlockRequest) (n room places : ℕ) : Type 0 where
  pub few : n ≤ most_ip
  pub none_bad : length rs ≤ first_bad rs
  pub room_for : sum_of n rs ≤ room
  pub places_for : length rs ≤ places

-- what one packet more asks: that `fragment` takes the request, room for it behind the first at bytes, and a place for its end
pub record PutAsks (r : BlockRequest) (i at n room places : ℕ) : Type 0 where
  pub few : n ≤ most_ip
  pub near : r.off ≤ most_offset
  pub room_for : at + size_for n r ≤ room
  pub place_for : i < places

-- what it leaves: its end, the output with the packet behind the first at bytes, and the ends with its own at i
pub record Put (t : Template) (r : BlockRequest) (i at : ℕ) (p o e : List ℕ) (end : ℕ) (o' e' : List ℕ) : Type 0 where
  pub is_end : end ≡ at + size_for (length p) r
  pub output : o' ≡ take at o ++ written (packet_of (fragment_of t r.off r.len) p) (drop at o)
  pub ends : e' ≡ set e i (at + size_for (length p) r)
