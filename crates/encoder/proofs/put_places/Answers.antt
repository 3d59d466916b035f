use native.Mathlib.Omega.{arith}
use Rattle.encoder.proofs.Writing.{Places, places_over}
use Rattle.encoder.proofs.put_places.Goals as goal

pub returns : goal.returns
returns c =
    let l : Places c.args.s.now =
    record {
      chain = omega arith;
      binder_key = omega arith;
      client_early = omega arith;
      early_exporter = omega arith;
      client_handshake = omega arith;
      server_handshake = omega arith;
      client_application = omega arith;
      server_application = omega arith;
      exporter = omega arith;
      resumption = omega arith;
    } in
    places_over c.args.at c.args.out.now c.args.s.now c.requires l c.put-a.ensures c.put-b.ensures c.put-c.ensures
    c.put-d.ensures c.put-e.ensures c.put-f.ensures c.put-g.ensures c.put-h.ensures c.put-i.ensures c.put.ensures
