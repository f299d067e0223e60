-- What is encoded and then damaged in its sums is mended to what was encoded.
use mathlib.Core.Path.{◌≡◌, refl, sym, ap, ap₂, ◌∙◌}
use mathlib.Core.Bool.{true, false}
use Prim.Native.Nat.{ℕ, ◌+◌, ◌≤◌, ◌<◌}
use native.Mathlib.Omega.{arith}
use mathlib.Core.List.{List, [], ◌++◌, append-nil}
use lib.ListN.{length, length-append}
use lib.Seq.{take_at}
use Rattle.pkt.specs.Answers.{Answer, refused, gives, mapped, and_then}
use Rattle.pkt.specs.Fields.{fields, Bytes}
use Rattle.pkt.specs.Rfc1071.{checksum}
use Rattle.pkt.specs.Rfc768.{udp_fields, udp_header, udp_checksum}
use Rattle.pkt.specs.Rfc791.{ip_fields, ip_bytes, ip_header}
use Rattle.pkt.specs.Rfc792.{echo_fields, echo_header, echo_checksum}
use Rattle.pkt.specs.Rfc9293.{tcp_fields, tcp_header, tcp_checksum}
use Rattle.pkt.specs.declared.ipv4.ip_hdr.{ip_hdr}
use Rattle.pkt.specs.declared.ipv4.tcp_hdr.{tcp_hdr}
use Rattle.pkt.specs.declared.ipv4.udp_hdr.{udp_hdr}
use Rattle.pkt.specs.declared.ipv4.icmp_hdr.{icmp_hdr}
use Rattle.pkt.specs.declared.ipv4.icmp_echo_hdr.{icmp_echo_hdr}
use Rattle.pkt.proofs.Bytes.{bytes_append}
use Rattle.pkt.proofs.Choice.{pick_yes, pick_no}
use Rattle.pkt.proofs.Fields.{fields_bytes}
use Rattle.pkt.proofs.Headers.{tcp_length, udp_length, echo_length}
use Rattle.inspect.specs.Answers.{whole}
use Rattle.inspect.specs.Check.{is_piece, whole_answer, examine_answer}
use Rattle.inspect.specs.Encoded.{read_of, IpFit}
use Rattle.inspect.specs.Header.{field_at, frame_answer, unreserved, data_of}
use Rattle.inspect.specs.Options.{Options, option_fields, option_bytes, option_header, past_options}
use Rattle.inspect.specs.declared.header.IpRead.{IpRead}
use Rattle.inspect.specs.declared.check.Kind.{Kind}
use Rattle.inspect.specs.declared.check.Kind.TheVariants.{Tcp, Udp, Bare, Icmp}
use Rattle.inspect.proofs.Decoding.{start_of, no_options, option_length, option_data, option_framed, plain_bytes, plain, framed_is}
use Rattle.inspect.proofs.Sent.{udp_len}
use Rattle.inspect.proofs.Standing.{sums_stand, tcp_offset}
use Rattle.mending.specs.Sums.{renewed, ip_sum, mend_packet}
use Rattle.mending.proofs.Renewed.{renewed_behind, renewed_front}
use Rattle.mending.proofs.Wholes.{Shape, tcp, udp, icmp, sum_at, shape_long, Known, examined}
use Rattle.mending.proofs.Anew.{part_sum, mended}
use Rattle.mending.proofs.Packets.{refused_stays, mended_is}

-- A header with another number for its checksum.
option_renewed : (h : ip_hdr) (os : List ℕ) (x y : ℕ) (l : List ℕ) → renewed 10 y (option_bytes h os x ++ l) ≡ option_bytes h os y ++ l
unfolding option_bytes renewed
option_renewed h os x y l = refl

option_bytes_lem : (h : ip_hdr) (os : List ℕ) (x : ℕ) → Bytes os → Bytes (option_bytes h os x)
unfolding option_bytes
option_bytes_lem h os x b = bytes_append (fields (option_fields h (length os) x)) os (fields_bytes (option_fields h (length os) x)) b

pub ip_bytes_lem : (h : ip_hdr) (x : ℕ) → Bytes (ip_bytes h x)
unfolding ip_bytes
ip_bytes_lem h x = fields_bytes (ip_fields h x)

protocol_is : (h : ip_hdr) → (read_of h).protocol ≡ h.protocol
unfolding read_of
protocol_is h = refl

-- The number that belongs into a part does not depend on the places.
sum_same : (k : Kind) (n : ℕ) (g : IpRead) (d : List ℕ) → part_sum k (past_options n g) d ≡ part_sum k g d
unfolding part_sum
sum_same Tcp n g d = refl
sum_same Udp n g d = refl
sum_same Bare n g d = refl
sum_same Icmp n g d = refl

-- ---- behind such a header h, with any number x in its field, options os, the data part d and the bytes r

module _ (h : ip_hdr) (fit : IpFit h) (os : List ℕ) (ok : Options os) (few : length os + h.tot_len < 65536)
    (x : ℕ) (d r : List ℕ) (total : h.tot_len ≡ 20 + length d) where
  l : List ℕ
  l = option_bytes h os x ++ (d ++ r)

  g : IpRead
  g = past_options (length os) (read_of h)

  seen : frame_answer l ≡ gives g
  unfolding l g
  seen = option_framed h os ok x (d ++ r) fit few (omega arith) (omega (arith, length-append d r))

  start_at_lem : g.start ≡ length (option_bytes h os x)
  unfolding g
  start_at_lem = omega (arith, start_of h, option_length h os x)

  ip_sum_is : ip_sum g l ≡ checksum (option_bytes h os 0)
  unfolding l
  ip_sum_is =
      ap (λ (b : List ℕ). checksum (renewed 10 0 b)) (take_at (option_bytes h os x) (d ++ r) g.start (sym start_at_lem))
      ∙ ap (λ (b : List ℕ). checksum (renewed 10 0 b)) (sym (append-nil (option_bytes h os x)))
      ∙ ap checksum (option_renewed h os x 0 [] ∙ append-nil (option_bytes h os 0))

  -- What is whole gets its two sums.
  pub option_mended : (read_of h).evil ≡ false → (k : Kind) → is_piece (read_of h) ≡ false → Shape (read_of h).protocol d k → Bytes d → Bytes r
      → mend_packet (option_bytes h os x ++ (d ++ r)) ≡ option_header h os ++ (renewed (sum_at k) (part_sum k (read_of h) d) d ++ r)
  unfolding mended option_header l g
  option_mended clear k piece shape bd br =
      let y : ℕ = part_sum k (read_of h) d in
      let c : ℕ = checksum (option_bytes h os 0) in
      let data_is = option_data h os x d r total in
      let q : Known l g k = record { frame = seen; clear = clear; piece = piece; shape = rw data_is shape } in
      mended_is l (whole g k) (bytes_append (option_bytes h os x) (d ++ r) (option_bytes_lem h os x ok.bytes) (bytes_append d r bd br)) (examined l g k q)
      ∙ ap (λ (e : List ℕ). renewed (g.start + sum_at k) (part_sum k g e) (renewed 10 (ip_sum g l) l)) data_is
      ∙ ap₂ (λ (y c : ℕ). renewed (g.start + sum_at k) y (renewed 10 c l)) (sum_same k (length os) (read_of h) d) ip_sum_is
      ∙ ap (renewed (g.start + sum_at k) y) (option_renewed h os x c (d ++ r))
      ∙ ap (λ (n : ℕ). renewed (n + sum_at k) y (option_header h os ++ (d ++ r))) (start_at_lem ∙ option_length h os x ∙ sym (option_length h os c))
      ∙ renewed_behind (option_header h os) (d ++ r) (sum_at k) y
      ∙ ap (λ (m : List ℕ). option_header h os ++ m) (renewed_front d r (sum_at k) y (shape_long shape).1)

-- ---- without options

module _ (h : ip_hdr) (fit : IpFit h) (x : ℕ) (d r : List ℕ) (total : h.tot_len ≡ 20 + length d) where
  frame_is : frame_answer (ip_bytes h x ++ (d ++ r)) ≡ gives (read_of h)
  frame_is = framed_is h x (d ++ r) fit (omega arith) (omega (arith, length-append d r))

  pub encoded_mended : (read_of h).evil ≡ false → (k : Kind) → is_piece (read_of h) ≡ false → Shape (read_of h).protocol d k → Bytes d → Bytes r
      → mend_packet (ip_bytes h x ++ (d ++ r)) ≡ ip_header h ++ (renewed (sum_at k) (part_sum k (read_of h) d) d ++ r)
  encoded_mended clear k piece shape bd br =
      ap (λ (b : List ℕ). mend_packet (b ++ (d ++ r))) (sym (plain_bytes h x))
      ∙ option_mended h fit [] no_options (omega (arith, fit.total)) x d r total clear k piece shape bd br
      ∙ ap (λ (b : List ℕ). b ++ (renewed (sum_at k) (part_sum k (read_of h) d) d ++ r)) (plain h)

  -- A piece is kept.
  pub piece_kept : (read_of h).evil ≡ false → is_piece (read_of h) ≡ true → mend_packet (ip_bytes h x ++ (d ++ r)) ≡ ip_bytes h x ++ (d ++ r)
  unfolding examine_answer whole_answer
  piece_kept clear piece =
      let g : IpRead = read_of h in
      let l : List ℕ = ip_bytes h x ++ (d ++ r) in
      refused_stays l 13
      (ap (λ (a : Answer IpRead). and_then (and_then a unreserved) (λ f. mapped (whole f) (whole_answer f (data_of f l)))) frame_is
      ∙ ap (λ (a : Answer IpRead). and_then a (λ f. mapped (whole f) (whole_answer f (data_of f l)))) (pick_no (refused 18) (gives g) clear)
      ∙ ap (mapped (whole g)) (pick_yes (refused 13) _ piece))

  -- A packet whose reserved bit is set is kept.
  pub evil_kept : (read_of h).evil ≡ true → mend_packet (ip_bytes h x ++ (d ++ r)) ≡ ip_bytes h x ++ (d ++ r)
  unfolding examine_answer
  evil_kept evil =
      let l : List ℕ = ip_bytes h x ++ (d ++ r) in
      refused_stays l 18
      (ap (λ (a : Answer IpRead). and_then (and_then a unreserved) (λ f. mapped (whole f) (whole_answer f (data_of f l)))) frame_is
      ∙ ap (λ (a : Answer IpRead). and_then a (λ f. mapped (whole f) (whole_answer f (data_of f l)))) (pick_yes (refused 18) (gives (read_of h)) evil))

-- ---- transport parts: a header with the number c for its checksum and the payload p

module _ (p : List ℕ) (c : ℕ) where
  pub tcp_size : (t : tcp_hdr) → length (tcp_header t c ++ p) ≡ 20 + length p
  tcp_size t = length-append (tcp_header t c) p ∙ ap (λ (n : ℕ). n + length p) (tcp_length t c)

  pub tcp_bytes : (t : tcp_hdr) → Bytes p → Bytes (tcp_header t c ++ p)
  unfolding tcp_header
  tcp_bytes t bp = bytes_append (tcp_header t c) p (fields_bytes (tcp_fields t c)) bp

  tcp_renewed : (t : tcp_hdr) (y : ℕ) → renewed 16 y (tcp_header t c ++ p) ≡ tcp_header t y ++ p
  unfolding tcp_header renewed
  tcp_renewed t y = refl

  tcp_sum_is : (h : ip_hdr) (t : tcp_hdr) → part_sum Tcp (read_of h) (tcp_header t c ++ p) ≡ tcp_checksum h.saddr h.daddr t p
  unfolding part_sum read_of tcp_checksum
  tcp_sum_is h t = rw (tcp_size t, tcp_renewed t 0)

  pub udp_size : (u : udp_hdr) → length (udp_header u c ++ p) ≡ 8 + length p
  udp_size u = length-append (udp_header u c) p ∙ ap (λ (n : ℕ). n + length p) (udp_length u c)

  pub udp_bytes : (u : udp_hdr) → Bytes p → Bytes (udp_header u c ++ p)
  unfolding udp_header
  udp_bytes u bp = bytes_append (udp_header u c) p (fields_bytes (udp_fields u c)) bp

  udp_renewed : (u : udp_hdr) (y : ℕ) → renewed 6 y (udp_header u c ++ p) ≡ udp_header u y ++ p
  unfolding udp_header renewed
  udp_renewed u y = refl

  udp_sum_is : (h : ip_hdr) (u : udp_hdr) → part_sum Udp (read_of h) (udp_header u c ++ p) ≡ udp_checksum h.saddr h.daddr u p
  unfolding part_sum read_of udp_checksum
  udp_sum_is h u = rw (udp_size u, udp_renewed u 0)

  -- A UDP datagram says how long it is.
  pub udp_long : (u : udp_hdr) → u.len < 65536 → u.len ≡ 8 + length p → field_at (udp_header u c ++ p) 4 2 ≡ length (udp_header u c ++ p)
  udp_long u few len = udp_len u c p few ∙ len ∙ sym (udp_size u)

  pub echo_size : (i : icmp_hdr) (e : icmp_echo_hdr) → length (echo_header i e c ++ p) ≡ 8 + length p
  echo_size i e = length-append (echo_header i e c) p ∙ ap (λ (n : ℕ). n + length p) (echo_length i e c)

  pub echo_bytes : (i : icmp_hdr) (e : icmp_echo_hdr) → Bytes p → Bytes (echo_header i e c ++ p)
  unfolding echo_header
  echo_bytes i e bp = bytes_append (echo_header i e c) p (fields_bytes (echo_fields i e c)) bp

  echo_renewed : (i : icmp_hdr) (e : icmp_echo_hdr) (y : ℕ) → renewed 2 y (echo_header i e c ++ p) ≡ echo_header i e y ++ p
  unfolding echo_header renewed
  echo_renewed i e y = refl

  echo_sum_is : (h : ip_hdr) (i : icmp_hdr) (e : icmp_echo_hdr) → part_sum Icmp (read_of h) (echo_header i e c ++ p) ≡ echo_checksum i e p
  unfolding part_sum echo_checksum
  echo_sum_is h i e = ap checksum (echo_renewed i e 0)

-- ---- what this library's encoders write, with any numbers for the sums

-- behind a header whose reserved bit is clear and that is no piece's, with the bytes r behind it
module _ (h : ip_hdr) (fit : IpFit h) (clear : (read_of h).evil ≡ false) (piece : is_piece (read_of h) ≡ false)
    (x : ℕ) (p r : List ℕ) (bp : Bytes p) (br : Bytes r) where
  -- a TCP segment
  pub tcp_mended : (t : tcp_hdr) (c : ℕ) → h.protocol ≡ 6 → h.tot_len ≡ 20 + length (tcp_header t c ++ p)
      → mend_packet (ip_bytes h x ++ ((tcp_header t c ++ p) ++ r)) ≡ ip_header h ++ ((tcp_header t (tcp_checksum h.saddr h.daddr t p) ++ p) ++ r)
  tcp_mended t c six total =
      let d : List ℕ = tcp_header t c ++ p in
      let shape : Shape (read_of h).protocol d Tcp = tcp (protocol_is h ∙ six) (omega (arith, tcp_size p c t)) (tcp_offset t c p) in
      encoded_mended h fit x d r total clear Tcp piece shape (tcp_bytes p c t bp) br
      ∙ ap (λ (y : ℕ). ip_header h ++ (renewed 16 y d ++ r)) (tcp_sum_is p c h t)
      ∙ ap (λ (m : List ℕ). ip_header h ++ (m ++ r)) (tcp_renewed p c t (tcp_checksum h.saddr h.daddr t p))

  -- a UDP datagram with a checksum
  pub udp_mended : (u : udp_hdr) (c : ℕ) → 1 ≤ c → c ≤ 65535 → h.protocol ≡ 17 → u.len ≡ 8 + length p → h.tot_len ≡ 20 + length (udp_header u c ++ p)
      → mend_packet (ip_bytes h x ++ ((udp_header u c ++ p) ++ r)) ≡ ip_header h ++ ((udp_header u (udp_checksum h.saddr h.daddr u p) ++ p) ++ r)
  udp_mended u c some most seventeen len total =
      let d : List ℕ = udp_header u c ++ p in
      let size = udp_size p c u in
      let sent : field_at d 6 2 ≡ c = sums_stand.udp u c p most in
      let shape : Shape (read_of h).protocol d Udp =
      udp (protocol_is h ∙ seventeen) (omega arith) (udp_long p c u (omega (arith, fit.total)) len) (λ z. omega arith) in
      encoded_mended h fit x d r total clear Udp piece shape (udp_bytes p c u bp) br
      ∙ ap (λ (y : ℕ). ip_header h ++ (renewed 6 y d ++ r)) (udp_sum_is p c h u)
      ∙ ap (λ (m : List ℕ). ip_header h ++ (m ++ r)) (udp_renewed p c u (udp_checksum h.saddr h.daddr u p))

  -- an echo
  pub echo_mended : (i : icmp_hdr) (e : icmp_echo_hdr) (c : ℕ) → h.protocol ≡ 1 → h.tot_len ≡ 20 + length (echo_header i e c ++ p)
      → mend_packet (ip_bytes h x ++ ((echo_header i e c ++ p) ++ r)) ≡ ip_header h ++ ((echo_header i e (echo_checksum i e p) ++ p) ++ r)
  echo_mended i e c one total =
      let d : List ℕ = echo_header i e c ++ p in
      let shape : Shape (read_of h).protocol d Icmp = icmp (protocol_is h ∙ one) (omega (arith, echo_size p c i e)) in
      encoded_mended h fit x d r total clear Icmp piece shape (echo_bytes p c i e bp) br
      ∙ ap (λ (y : ℕ). ip_header h ++ (renewed 2 y d ++ r)) (echo_sum_is p c h i e)
      ∙ ap (λ (m : List ℕ). ip_header h ++ (m ++ r)) (echo_renewed p c i e (echo_checksum i e p))
