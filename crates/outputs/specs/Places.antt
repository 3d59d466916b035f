-- The place that a call reads, and the Finished value of any session record.
use Rattle.std.specs.Prelude.{ℕ, cond, List, eqb, take}
use Rattle.suite.specs.Suite.{hash_length}
use Rattle.suite_hash.specs.Variants.{variant_of}
use Rattle.suite_hash.specs.Running.{finished}
use Rattle.schedule.specs.Schedule.{verify_data}
use Rattle.session.specs.declared.Session.{Session}

-- the traffic secret that Keys names
abbrev pub named_place : Session → ℕ → List ℕ
named_place s name =
    cond (eqb name 1) s.client_early
    (cond (eqb name 2) s.client_handshake
    (cond (eqb name 3) s.server_handshake
    (cond (eqb name 4) s.client_application s.server_application)))

-- the handshake secret of a side: 1 client, 2 server
abbrev pub base_place : Session → ℕ → List ℕ
base_place s side = cond (eqb side 1) s.client_handshake s.server_handshake

-- Export: 1 early, 2 regular
abbrev pub exporter_place : Session → ℕ → List ℕ
exporter_place s name = cond (eqb name 1) s.early_exporter s.exporter

-- verify_data under the handshake secret of a side, over the running hash
unfoldable pub finished_from : Session → ℕ → List ℕ
finished_from s side =
    verify_data s.suite (take (hash_length s.suite) (base_place s side)) (take (hash_length s.suite) (finished (variant_of s.suite) s.transcript))
