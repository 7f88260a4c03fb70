mod PlaceLaws
