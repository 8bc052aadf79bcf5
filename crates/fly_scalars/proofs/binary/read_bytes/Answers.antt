use Rattle.std.proofs.Common.{ap, ◌∙◌}
use Rattle.std.proofs.lemmas.Result.{IfOk-weaker}
use Rattle.base64.specs.Engines.{standard_no_pad, url_safe, url_safe_no_pad}
use Rattle.base64.specs.GeneralPurpose.{decoded_of}
use Rattle.fly_scalars.specs.Binary.{bytes_of, or_next}
use Rattle.fly_scalars.proofs.binary.read_bytes.Goals as goal

pub returns : goal.returns
unfolding bytes_of decoded_of
returns c =
    let text = c.as_bytes-text.result.now in
    let first = c.in_ok-found.ensures in
    let second = c.in_ok-found-2.ensures ∙ ap (λ f. or_next f (decoded_of standard_no_pad text)) first in
    let third = c.in_ok-found-3.ensures ∙ ap (λ f. or_next f (decoded_of url_safe text)) second in
    IfOk-weaker c.or_decoded-3.result _ _ (λ o e. e ∙ ap (λ f. or_next f (decoded_of url_safe_no_pad text)) third ∙ ap bytes_of c.as_bytes-text.ensures.value) c.or_decoded-3.ensures
