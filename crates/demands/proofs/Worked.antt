-- Document 01's worked examples, by computing.
use mathlib.Core.Path.{refl}
use Rattle.pkt.specs.Fields.{value}
use Rattle.pkt.specs.Rfc1071.{words, plus, sum, checksum}
use Rattle.pkt.specs.Rfc791.{ip_bytes, ip_header}
use Rattle.pkt.specs.Rfc768.{nonzero, pseudo, udp_header, udp_checksum}
use Rattle.pkt.specs.Rfc9293.{tcp_header, tcp_checksum}
use Rattle.ezpkt.specs.Build.{tcp_packet, udp_packet, piece_packet}
use Rattle.inspect.specs.Header.{field_at, header_of, not_ipv4, frame_answer, read_answer}
use Rattle.inspect.specs.Encoded.{read_of}
use Rattle.assembly.specs.Map.{block_bit, set_bit, mark, marked}
use Rattle.assembly.specs.Assembly.{step, clashes, end_clash, byte_clash, accept, new_total, new_floor, held_to, total_fits, record_fits, outcome}
use Rattle.assembly.specs.Carried.{same_key, broken, fit_answer, keyed_answer, head_answer, piece_answer}
use Rattle.assembly.specs.Calls.{sized, usable, take_answer}
use Rattle.demands.specs.Assembling.{template_key}
use Rattle.demands.specs.Worked.{AllHold, syn, datagram, handshake, numbers_at, rolled, piece_at, field_and_data, cases}

-- 'Checked by hand': "Those marked P are proved together, as a single statement over a list of cases".
pub worked : AllHold cases
unfolding template_key read_of syn datagram handshake numbers_at rolled piece_at field_and_data field_at value tcp_packet udp_packet piece_packet ip_header ip_bytes tcp_header tcp_checksum udp_header udp_checksum nonzero pseudo checksum words sum plus take_answer usable sized record_fits total_fits piece_answer head_answer keyed_answer fit_answer broken same_key read_answer frame_answer not_ipv4 header_of step clashes end_clash byte_clash accept new_total new_floor outcome held_to marked mark set_bit block_bit
worked = (refl, (refl, (refl, (refl, (refl, (refl, (refl, (refl, (refl, (refl, (refl, (refl, (refl, (refl, (refl, (refl, tt))))))))))))))))
