-- The user's demands, each one closed statement.
use Rattle.ezpkt.proofs.Verifying.{header_verifies, tcp_sum_verifies, udp_sum_verifies, echo_sum_verifies}
use Rattle.demands.specs.Demand1.{Demand1}
use Rattle.demands.specs.Demand2.{Demand2}
use Rattle.demands.specs.Demand3.{Demand3}
use Rattle.demands.proofs.Numbers.{numbered}
use Rattle.demands.proofs.Refusals.{refused_keep}
use Rattle.demands.proofs.Outputs.{built_as_owed}
use Rattle.demands.proofs.Handing.{in_any_order}
use Rattle.demands.proofs.Gathering.{from_one}

pub demand_1 : Demand1
demand_1 = record { numbered = numbered; kept = refused_keep }

pub demand_2 : Demand2
demand_2 =
    record {
      built = built_as_owed;
      ip_sum = header_verifies;
      tcp_sum = tcp_sum_verifies;
      udp_sum = udp_sum_verifies;
      echo_sum = echo_sum_verifies;
    }

pub demand_3 : Demand3
demand_3 = record { one_end = λ k. (in_any_order k).one_end; spoilt_when = λ k. (in_any_order k).spoilt_when; from_one = from_one }
