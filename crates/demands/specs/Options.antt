-- Document 02, T-11: a packet with options is taken, checked, counted and mended as the one without.
use Rattle.std.specs.Prelude.{◌≡◌, ◌↔◌, List, [], ◌∷◌, ◌++◌, ℕ, ◌+◌, ◌<◌, length, Result, Ok}
use Rattle.pkt.specs.declared.refusal.Refusal.{Refusal}
use Rattle.pkt.specs.Answers.{gives, mapped}
use Rattle.pkt.specs.Fields.{Bytes}
use Rattle.pkt.specs.Rfc791.{ip_bytes, ip_header}
use Rattle.pkt.specs.declared.ipv4.ip_hdr.{ip_hdr}
use Rattle.ezpkt.specs.Build.{packet_of}
use Rattle.ezpkt.specs.declared.SocketAddrV4.{SocketAddrV4}
use Rattle.ezpkt.specs.declared.build.Request.{Request}
use Rattle.inspect.specs.declared.check.Whole.{Whole}
use Rattle.inspect.specs.Answers.{whole}
use Rattle.inspect.specs.Header.{read_answer}
use Rattle.inspect.specs.Check.{check_answer, examine_answer}
use Rattle.inspect.specs.Encoded.{IpFit}
use Rattle.inspect.specs.Options.{Options, option_bytes, option_header, past_options}
use Rattle.assembly.specs.declared.Key.{Key}
use Rattle.assembly.specs.declared.Taken.{Taken}
use Rattle.assembly.specs.Assembly.{State}
use Rattle.assembly.specs.Carried.{piece_answer}
use Rattle.assembly.specs.Calls.{Takes}
use Rattle.assembly.specs.Packets.{take_all}
use Rattle.table.specs.declared.Slot.{Slot}
use Rattle.table.specs.declared.After.{After}
use Rattle.assembly.specs.declared.Outcome.{Outcome}
use Rattle.table.specs.Table.{table_take, Tables}
use Rattle.reporting.specs.Report.{cut_at, Reports}
use Rattle.reporting.specs.declared.Report.{Report}
use Rattle.mending.specs.Sums.{mend_packet}
use Rattle.demands.specs.Mending.{Asked}

-- a header and a data part, as long as the header says
pub record Parts : Type 0 where
  pub header : ip_hdr
  pub part : List ℕ
  pub fits : IpFit header
  pub total : header.tot_len ≡ 20 + length part

-- "any option bytes of any of the ten lengths", as far as the total length holds them
pub record Optioned : Type 0 where
  pub parts : Parts
  pub options : List ℕ
  pub any : Options options
  pub room : length options + parts.header.tot_len < 65536

-- The packet without the options and with them, both with x for the header's checksum, and with the bytes r behind it,
abbrev pub bare_with : ℕ → Parts → List ℕ → List ℕ
bare_with x p r = ip_bytes p.header x ++ (p.part ++ r)

abbrev pub full_with : ℕ → Optioned → List ℕ → List ℕ
full_with x o r = option_bytes o.parts.header o.options x ++ (o.parts.part ++ r)

-- .. and with the right one
abbrev pub bare : Parts → List ℕ → List ℕ
bare p r = ip_header p.header ++ (p.part ++ r)

abbrev pub full : Optioned → List ℕ → List ℕ
full o r = option_header o.parts.header o.options ++ (o.parts.part ++ r)

-- two lists of packets: any of the second list are those of the first with options, the others the same
pub data Mixed : List (List ℕ) → List (List ℕ) → Type 0 where
  none : Mixed [] []
  same : (l : List ℕ) (ls ms : List (List ℕ)) → Mixed ls ms → Mixed (l ∷ ls) (l ∷ ms)
  with_options : (o : Optioned) (r r' : List ℕ) (ls ms : List (List ℕ)) → Mixed ls ms → Mixed (bare o.parts r ∷ ls) (full o r' ∷ ms)

pub record OptionsPassed : Type 0 where
  -- What is built is a header with its data part.
  pub built : (q : Request) (p : List ℕ) → Asked q p → (x : Parts) × (packet_of q p ≡ ip_header x.header ++ x.part)
  -- With options it says the same, and "where the data starts".
  pub read : (o : Optioned) (r r' : List ℕ) → read_answer (full o r) ≡ mapped (past_options (length o.options)) (read_answer (bare o.parts r'))
  -- "the same verdict"
  pub checked : (o : Optioned) (r r' : List ℕ) → check_answer (full o r) ≡ check_answer (bare o.parts r')
  -- "the same piece", for every key and in an assembly of any capacity:
  pub carried : (o : Optioned) (r r' : List ℕ) (C : ℕ) (k : Key) → piece_answer C k (full o r) ≡ piece_answer C k (bare o.parts r')
  -- what a call of an assembly or of a table may do with the one, it may do with the other, and that is one thing.
  pub taken : (o : Optioned) (r r' : List ℕ) (C M : ℕ) (s : State) (a : Result Taken Refusal) (d m : List ℕ) → Takes C M s (full o r) a d m ↔ Takes C M s (bare o.parts r') a d m
  pub tabled : (o : Optioned) (r r' : List ℕ) (t : List Slot) (d m : List ℕ) (a : After Outcome) (d' m' : List ℕ)
      → Tables (table_take t d m (full o r)) t d m a d' m' ↔ Tables (table_take t d m (bare o.parts r')) t d m a d' m'
  -- So packets "with options and without mixed" end in the state of those without,
  pub assembled : (C M : ℕ) (s : State) (ls ms : List (List ℕ)) → Mixed ls ms → take_all C M s ms ≡ take_all C M s ls
  -- and two calls report the same of them.
  pub reported : (ls ms : List (List ℕ)) → Mixed ls ms → (l es m fs : List ℕ) → cut_at 0 es l ≡ ls → cut_at 0 fs m ≡ ms
      → (cl sv : SocketAddrV4) (r q : Report) → Reports l es cl sv (Ok r) → Reports m fs cl sv (Ok q) → q ≡ r
  -- Whatever its header's checksum, it is as whole as the one without,
  pub examined : (o : Optioned) (x y : ℕ) (r r' : List ℕ)
      → examine_answer (full_with x o r) ≡ mapped (λ w. whole (past_options (length o.options) w.header) w.kind) (examine_answer (bare_with y o.parts r'))
  -- and mended to the one that is mended without, with the options.
  pub mended : (o : Optioned) (x y : ℕ) (r r' : List ℕ) (w : Whole) → Bytes o.parts.part → Bytes r → Bytes r'
      → examine_answer (bare_with y o.parts r') ≡ gives w
      → (d : List ℕ) × (length d ≡ length o.parts.part) × (mend_packet (bare_with y o.parts r') ≡ ip_header o.parts.header ++ (d ++ r'))
      × (mend_packet (full_with x o r) ≡ option_header o.parts.header o.options ++ (d ++ r))
