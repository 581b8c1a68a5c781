-- Each claim has its proof.
use Rattle.claims.proofs.Page.{claims}
use Rattle.claims.proofs.hold.Goals as goal

pub returns : goal.returns
returns c = claims
