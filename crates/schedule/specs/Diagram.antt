-- RFC 8446, section 7.1, the diagram: what each secret is derived from, and the last message of its transcript. Its label is
-- in `Labels`.
use Rattle.std.specs.Prelude.{ℕ}
use Rattle.schedule.specs.Labels.{Secret}
use Rattle.schedule.specs.Labels.Secret.{binder_external, binder_resumption, client_early, early_exporter, client_handshake, server_handshake, client_application, server_application, exporter, resumption}

pub data Chain : Type 0 where
  the_early_secret : Chain
  the_handshake_secret : Chain
  the_master_secret : Chain

unfoldable pub from : Secret → Chain
from binder_external = the_early_secret
from binder_resumption = the_early_secret
from client_early = the_early_secret
from early_exporter = the_early_secret
from client_handshake = the_handshake_secret
from server_handshake = the_handshake_secret
from client_application = the_master_secret
from server_application = the_master_secret
from exporter = the_master_secret
from resumption = the_master_secret

-- 0 none (""), 1 ClientHello, 2 ServerHello, 3 server Finished, 4 client Finished
unfoldable pub until : Secret → ℕ
until binder_external = 0
until binder_resumption = 0
until client_early = 1
until early_exporter = 1
until client_handshake = 2
until server_handshake = 2
until client_application = 3
until server_application = 3
until exporter = 3
until resumption = 4
