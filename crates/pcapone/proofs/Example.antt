-- Document 01's capture of the input `lap!`, byte for byte.
use mathlib.Core.Path.{refl}
use Rattle.pkt.specs.Rfc1071.{words, plus, sum, checksum}
use Rattle.pkt.specs.Rfc791.{ip_bytes, ip_header}
use Rattle.pkt.specs.Rfc792.{echo_header, echo_checksum}
use Rattle.ezpkt.specs.Build.{echo_packet}
use Rattle.pcap.specs.Pcap.{file_header, record_header, record_bytes, records_bytes, capture_bytes}
use Rattle.pcapone.specs.Capture.{file_of, LapCaptured}

pub lap_capture : LapCaptured
unfolding file_of capture_bytes records_bytes file_header record_header record_bytes echo_packet ip_header ip_bytes echo_header echo_checksum checksum words sum plus
lap_capture = refl
