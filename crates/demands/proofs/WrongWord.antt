-- What a single wrong word can do, of all that is built.
use Rattle.demands.specs.WrongWord.{WrongWords}
use Rattle.demands.proofs.TcpWord.{tcp_word, tcp_last}
use Rattle.demands.proofs.UdpWord.{udp_word, udp_sum, udp_none, udp_last}
use Rattle.demands.proofs.EchoWord.{echo_word, echo_last}
use Rattle.demands.proofs.HeaderWord.{header_read, header_turned}

-- Document 02, T-13.
pub wrong_words : WrongWords
wrong_words =
    record {
      tcp = tcp_word;
      tcp_last = tcp_last;
      udp = udp_word;
      udp_sum = udp_sum;
      udp_none = udp_none;
      udp_last = udp_last;
      echo = echo_word;
      echo_last = echo_last;
      header_read = header_read;
      header_turned = header_turned;
    }
