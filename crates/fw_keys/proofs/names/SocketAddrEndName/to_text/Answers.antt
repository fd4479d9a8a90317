use Rattle.std.specs.Net.Text.{socket_text}
use Rattle.fw_keys.proofs.Plain.{plain_socket}
use Rattle.fw_keys.proofs.Sockets.{spells_socket}
use Rattle.fw_keys.proofs.names.SocketAddrEndName.to_text.Goals as goal

pub returns-clause-back : goal.returns-clause-back
returns-clause-back c = λ shown.
    let named = spells_socket c.args.self.now c.fields_fit.ensures shown in
    record { plain = plain_socket (socket_text c.args.self.now) c.args.self.now named; named = named }
