-- The page of all claims, with the proof of each.
use Rattle.history.proofs.Whole.{whole_report}
use Rattle.route.proofs.Determined.{check-determined, counted-determined, found-determined}
use Rattle.tcam.proofs.Determined.{next-determined}
use Rattle.records.proofs.Determined.{step-determined}
use Rattle.history.proofs.Determined.{filled-determined}
use Rattle.claims.specs.Claims.{Claims}
use Rattle.claims.proofs.Demand2.{demand2}
use Rattle.claims.proofs.HasTable.{has_table}
use Rattle.claims.proofs.Demand3.{demand3}
use Rattle.claims.proofs.Reapplied.{reapplied}
use Rattle.claims.proofs.RunHolds.{run_holds}
use Rattle.claims.proofs.Mending.{mends}
use Rattle.claims.proofs.Download.{download_claim}
use Rattle.claims.proofs.Board.{board}
use Rattle.claims.proofs.MendCases.{mend_cases}
use Rattle.claims.proofs.DownloadCases.{download_cases}
use Rattle.claims.proofs.RecordForms.{record_forms}
use Rattle.claims.proofs.ReportOfBook.{report_of_book}
use Rattle.claims.proofs.PlanRoom.{plans_have_room}
use Rattle.claims.proofs.Example.{example}

pub claims : Claims
claims = record {
  demand2 = demand2;
  has_table = has_table;
  demand3 = demand3;
  reapplied = reapplied;
  run_holds = run_holds;
  mends = mends;
  download = download_claim;
  board = board;
  mend_cases = mend_cases;
  download_cases = download_cases;
  records = record_forms;
  parts = whole_report;
  report = report_of_book;
  plan_room = plans_have_room;
  example = example;
  determined = record {
    checks = check-determined;
    counts = counted-determined;
    lookups = found-determined;
    downloads = next-determined;
    readings = step-determined;
    parts = filled-determined;
  };
}
