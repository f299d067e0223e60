-- Headers with options: RFC 791, 3.1, and document 02, T-11: "The arena switches add router alert".
use Rattle.std.specs.Prelude.{ℕ, ◌+◌, ◌/◌, ◌%◌, ◌≤◌, ◌≡◌, List, ◌∷◌, ◌++◌, length, drop}
use Rattle.pkt.specs.Fields.{Field, field, fields, Bytes}
use Rattle.pkt.specs.Rfc1071.{checksum}
use Rattle.pkt.specs.Rfc791.{ip_fields}
use Rattle.pkt.specs.declared.ipv4.ip_hdr.{ip_hdr}
use Rattle.inspect.specs.declared.header.IpRead.{IpRead}

-- Any option bytes, of one of the ten lengths that a header has room for, or none.
pub record Options (os : List ℕ) : Type 0 where
  pub bytes : Bytes os
  pub words : length os % 4 ≡ 0
  pub most : length os ≤ 40

-- a header whose packet has n bytes more
abbrev pub longer : ℕ → ip_hdr → ip_hdr
longer n h =
    record {
      tos = h.tos;
      tot_len = n + h.tot_len;
      id = h.id;
      frag_off = h.frag_off;
      ttl = h.ttl;
      protocol = h.protocol;
      saddr = h.saddr;
      daddr = h.daddr;
    }

-- 3.1, the header's figure: as h is written without options, but for the length of the header in words and the total length
abbrev pub option_fields : ip_hdr → ℕ → ℕ → List Field
option_fields h n c = field 1 (n / 4 + 0x45) ∷ drop 1 (ip_fields (longer n h) c)

-- .. and the options behind these fields
unfoldable pub option_bytes : ip_hdr → List ℕ → ℕ → List ℕ
option_bytes h os c = fields (option_fields h (length os) c) ++ os

-- 3.1, Header Checksum: "a checksum on the header only", of all of it, for which its own field is zero
unfoldable pub option_header : ip_hdr → List ℕ → List ℕ
option_header h os = option_bytes h os (checksum (option_bytes h os 0))

-- what is read of such a header: the same as without its n bytes of options, but for the places
abbrev pub past_options : ℕ → IpRead → IpRead
past_options n g =
    record {
      tos = g.tos;
      tot_len = n + g.tot_len;
      id = g.id;
      evil = g.evil;
      df = g.df;
      mf = g.mf;
      off = g.off;
      ttl = g.ttl;
      protocol = g.protocol;
      saddr = g.saddr;
      daddr = g.daddr;
      start = n + g.start;
      end = n + g.end;
    }
