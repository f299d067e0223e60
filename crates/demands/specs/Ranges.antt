-- Numbers that fit their types, as every value of the source does: those of a template and of a request that go into the IPv4 header.
use Rattle.std.specs.Prelude.{ℕ, ◌<◌}
use Rattle.ezpkt.specs.declared.Marks.{Marks}
use Rattle.ezpkt.specs.declared.ip4.Template.{Template}
use Rattle.ezpkt.specs.declared.build.Request.{Request}
use Rattle.ezpkt.specs.declared.build.Request.TheVariants.{Tcp, Udp, Echo, Piece}

pub record Fitting (t : Template) : Type 0 where
  pub tos : t.tos < 256
  pub id : t.id < 65536
  pub ttl : t.ttl < 256
  pub protocol : t.protocol < 256
  pub saddr : t.saddr < 4294967296
  pub daddr : t.daddr < 4294967296

-- two addresses
abbrev pub Between : ℕ → ℕ → Type 0
Between s d = (s < 4294967296) × (d < 4294967296)

-- a TOS and a TTL
abbrev pub Marked : Marks → Type 0
Marked m = (m.tos < 256) × (m.ttl < 256)

abbrev pub InRange : Request → Type 0
InRange (Tcp t) = (t.frag_off < 65536) × Between t.saddr t.daddr × Marked t.marks
InRange (Udp u) = (u.frag_off < 65536) × Between u.saddr u.daddr × Marked u.marks
InRange (Echo e) = Between e.saddr e.daddr × Marked e.marks
InRange (Piece q) = Fitting q.template
