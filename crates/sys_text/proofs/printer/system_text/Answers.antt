use Rattle.std.proofs.Common.{ap, ◌∙◌, ◌++◌, map}
use Rattle.std.specs.List.{flat_map}
use Rattle.sys_text.specs.Text.{lines_text, image_lines, root_line, chan_line}
use Rattle.sys_text.proofs.Lines.{system_text_whole}
use Rattle.sys_text.proofs.printer.system_text.Goals as goal

pub returns : goal.returns
returns c =
    system_text_whole c.args.system.now c.new-text.result c.put_header.new.text c.put_images.new.text c.put_roots.new.text c.put_chans.new.text
    c.new-text.ensures
    c.in_ok-put_header.ensures
    (c.in_ok-put_images.ensures ∙ ap (λ is. c.put_header.new.text ++ lines_text (flat_map image_lines is)) c.as_slice.ensures)
    (c.in_ok-put_roots.ensures ∙ ap (λ is. c.put_images.new.text ++ lines_text (map (root_line is) c.as_slice-3.result.now)) c.as_slice-2.ensures ∙ ap (λ rs. c.put_images.new.text ++ lines_text (map (root_line c.args.system.now.images) rs)) c.as_slice-3.ensures)
    (c.in_ok-put_chans.ensures ∙ ap (λ cs. c.put_roots.new.text ++ lines_text (map chan_line cs)) c.as_slice-4.ensures)
