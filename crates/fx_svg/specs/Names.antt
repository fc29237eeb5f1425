-- The names of elements and of attributes.
use Rattle.std.specs.Prelude.{ℕ, List, codes}
use Rattle.fx_svg.specs.declared.tag.Tag.{Tag}
use Rattle.fx_svg.specs.declared.tag.Tag.TheVariants as tag
use Rattle.fx_svg.specs.declared.key.Key.{Key}
use Rattle.fx_svg.specs.declared.key.Key.TheVariants as key

abbrev pub tag_name : Tag → List ℕ
tag_name tag.Svg = codes "svg"
tag_name tag.Title = codes "title"
tag_name tag.Description = codes "desc"
tag_name tag.Style = codes "style"
tag_name tag.Definitions = codes "defs"
tag_name tag.Marker = codes "marker"
tag_name tag.Group = codes "g"
tag_name tag.Rectangle = codes "rect"
tag_name tag.Line = codes "line"
tag_name tag.Path = codes "path"
tag_name tag.Circle = codes "circle"
tag_name tag.Text = codes "text"

abbrev pub key_name : Key → List ℕ
key_name key.Namespace = codes "xmlns"
key_name key.Role = codes "role"
key_name key.ViewBox = codes "viewBox"
key_name key.Width = codes "width"
key_name key.Height = codes "height"
key_name key.Id = codes "id"
key_name key.Class = codes "class"
key_name key.X = codes "x"
key_name key.Y = codes "y"
key_name key.X1 = codes "x1"
key_name key.Y1 = codes "y1"
key_name key.X2 = codes "x2"
key_name key.Y2 = codes "y2"
key_name key.CenterX = codes "cx"
key_name key.CenterY = codes "cy"
key_name key.Radius = codes "r"
key_name key.Way = codes "d"
key_name key.PointX = codes "refX"
key_name key.PointY = codes "refY"
key_name key.MarkerWidth = codes "markerWidth"
key_name key.MarkerHeight = codes "markerHeight"
key_name key.Orient = codes "orient"
