use Rattle.std.proofs.Common.{refl, ap, ◌∙◌, Option, Some}
use Rattle.std.specs.Result.{result_ok}
use Rattle.base64.specs.Engines.{standard}
use Rattle.base64.specs.GeneralPurpose.{decoded_of, encode_of}
use Rattle.base64.proofs.EngineFacts.{decode_of-encode_of}
use Rattle.fly_scalars.specs.Binary.{bytes_of, bytes_text, or_next}
use Rattle.fly_scalars.proofs.binary.write_bytes.Goals as goal

pub returns-clause-text : goal.returns-clause-text
unfolding bytes_text
returns-clause-text c = c.in_ok-encode.ensures.text

pub returns-clause-reads_back : goal.returns-clause-reads_back
unfolding bytes_of decoded_of
returns-clause-reads_back c =
    let b = c.args.bytes.now in
    let read = decode_of-encode_of standard b refl (λ i. (c.type_inv.bytes i).fits) in
    ap bytes_of c.in_ok-encode.ensures.text ∙ rw read refl
